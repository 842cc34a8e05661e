-- Charts and changes of which all that was text or entry in a file is bytes: proofs pass it on
-- to say that what is written is a file again. The statements about the calls don't speak of it, so nothing here need be believed. Assumes nothing.
use Rattle.std.specs.Prelude.{ℕ, ◌<◌, List}
use Rattle.items.specs.Item.{Item}
use Rattle.header.specs.Dsid.{Dsid}
use Rattle.held.specs.Chart.{Chart}
use Rattle.changes.specs.Change.{Amendment, Change}
use Rattle.changes.specs.Rules.{All}
use Rattle.demands.specs.Verdict.{Good}

-- each is a byte
abbrev pub ByteList : List ℕ → Type 0
ByteList s = All (λ (b : ℕ). b < 256) s

pub record ByteDsid (d : Dsid) : Type 0 where
  pub named : ByteList d.named
  pub applied : ByteList d.applied
  pub issued : ByteList d.issued
  pub rest : ByteList d.rest

-- the entries of each kind of list
pub record ByteObject (t : Item) : Type 0 where
  pub lists : (k : ℕ) → All ByteList (t.lists k)

pub record ByteChart (c : Chart) : Type 0 where
  pub dsid : ByteDsid c.header.dsid
  pub dspm : ByteList c.header.dspm
  pub items : All ByteObject c.items

pub record ByteChange (u : Change) : Type 0 where
  pub dsid : ByteDsid u.dsid
  pub amendments : All (λ (a : Amendment). ByteObject a.object) u.amendments

-- a good chart of bytes: what is held in a unit
pub record Whole (c : Chart) : Type 0 where
  pub good : Good c
  pub bytes : ByteChart c
