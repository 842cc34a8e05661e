-- Laws of a field that is fine, by its tag: what each form of field tells of its kind. Assumes nothing.
use Prim.Native.Nat.{ℕ, ◌-◌, ◌≤◌}
use mathlib.Core.Bool.{Bool, true, false, not, cond}
use mathlib.Core.List.{List}
use mathlib.Core.Path.{◌≡◌, refl, sym, ◌∙◌}
use native.Mathlib.Omega.{arith}
use lib.ListN.{length, take, drop, get_or}
use lib.Dec.{eqb}
use borrow.Author.Tests.{eq-eqb, not-false}
use Rattle.octets.proofs.Tests.{told_yes}
use Rattle.table.specs.Text.{bytes}
use Rattle.table.specs.Table.{table, row_of, kind_of, among, as_number, VRPT, SG2D, ATTV, FRID, ATTF, NATF, FSPT}
use Rattle.values.specs.Vrid.{vrid_fault}
use Rattle.values.specs.Frid.{frid_fault}
use Rattle.layout.specs.Layout.{opens, follows, placed, filled, shape_of}
use Rattle.fieldvalue.specs.Value.{is_attributes, field_fault}
use Rattle.std.specs.Prelude.{Result, is_ok}
use Rattle.values.specs.declared.fault.Fault.{Fault}
use Rattle.values.proofs.FaultLaws.{told_ok, well}
use Rattle.fieldvalue.specs.Judged.{PlainJudged}
use Rattle.fieldvalue.proofs.ValueLaws.{plain_vrid, plain_frid, plain_ffpt, attributes_none, judged_attv, judged_attf, judged_natf, judged_plain}
use Rattle.fieldfine.specs.Told.{content_in, PlainTold}
use Rattle.fieldfine.specs.Text.{Ended}
use Rattle.fieldfine.specs.Place.{SingleField, IdentifierField, GroupsField, AttributesField, PointersField, PlainFine, PlainField, FieldTold}
use Rattle.fieldfine.proofs.FullLaws.{groups_full}
use Rattle.fieldfine.proofs.TextLaws.{content_long}
use Rattle.fieldfine.proofs.PlaceLaws.{Each, each_one, stands_each, stands_declared}

never : {A : Type 0} → false ≡ true → A
never e = absurd (let z : ◌≡◌ {A = ℕ} 0 1 = cc in omega arith)

-- ---- content by the general code
pub plain_no : {update : Bool} {k : ℕ} {c : List ℕ} → PlainTold update k c false
plain_no = record { full = λ e. never e; judged = λ e. never e }

pub filled_so : (k : ℕ) (c : List ℕ) (w : Bool) → w ≡ filled k c → not w ≡ false → filled k c ≡ true
filled_so k c w is yes_full = told_yes w _ is yes_full

pub plain_so : {update : Bool} {k : ℕ} {c : List ℕ} {r : Result Unit Fault} (w : Bool) → w ≡ filled k c → not w ≡ false → PlainJudged update k c r → PlainTold update k c (is_ok r)
plain_so {update} {k} {c} {r} w is yes_full j = record {
  full = λ e. told_yes w _ is yes_full;
  judged = λ e. rw (well r e) at j;
}

-- ---- a field that isn't fine
pub field_not : {update : Bool} {stage : ℕ} {marks : List ℕ} {prev tag : ℕ} {c : List ℕ} {r : ℕ} → r ≡ 20 → PlainField update stage marks prev tag c r
field_not e = record { told = λ h. absurd (h e) }

-- ---- a field by the general code
pub field_rare : {update : Bool} {stage : ℕ} {marks : List ℕ} {prev tag : ℕ} {c : List ℕ} {k : ℕ} (a b : Bool) → k ≡ kind_of tag → k ≤ 19 → (k ≡ ATTV → ⊥) → (k ≡ ATTF → ⊥)
    → (k ≡ NATF → ⊥)
    → get_or marks k 0 ≡ 1 → a ≡ placed update stage prev k → not a ≡ false → PlainTold update k c b → not b ≡ false → PlainField update stage marks prev tag c k
field_rare {k = k} a b kind few x y z marked is stands told fine = record {
  told = λ h. record {
    kind = kind;
    few = few;
    stands = told_yes a _ is stands;
    declared = marked;
    full = told.full (not-false b fine);
    other = attributes_none k x y z;
    judged = told.judged (not-false b fine);
  };
}

-- ---- by its form, the tag as a number of four bytes: r is the answer, k its kind where it is fine
module _ {update : Bool} {stage : ℕ} {marks : List ℕ} {prev tag : ℕ} {c : List ℕ} {r : ℕ} where
  -- fields without rules
  quiet : (k : ℕ) → r ≡ k → kind_of tag ≡ k → k ≤ 19 → placed update stage prev k ≡ true → get_or marks k 0 ≡ 1 → filled k c ≡ true → is_attributes k ≡ false
      → ((aall nall : ℕ) (seen : List ℕ) → 0 ≡ field_fault update aall nall k seen c) → PlainFine update stage marks prev tag c r
  quiet k e kind few stands marked full other none = rw e (record {
    kind = sym kind;
    few = few;
    stands = stands;
    declared = marked;
    full = full;
    other = other;
    judged = record { fault = λ aall nall seen. told_ok (sym (none aall nall seen)); within = tt };
  })

  pub field_first : tag ≡ 808464433 → SingleField (length c) 2 marks prev 20 18 r → PlainField update stage marks prev tag c r
  unfolding kind_of among table as_number bytes placed filled row_of is_attributes field_fault
  field_first e f = record {
    told = λ h. quiet 18 (f.is h) (rw e) (omega arith) (rw (f.after h)) (f.declared h) (eq-eqb _ _ (f.long h)) refl (λ aall nall seen. refl);
  }

  pub field_foid : {n : ℕ} → n ≡ length c → tag ≡ 1179601220 → SingleField n 8 marks prev 10 11 r → PlainField update stage marks prev tag c r
  unfolding kind_of among table as_number bytes placed follows filled row_of is_attributes field_fault
  field_foid same e f = record {
    told = λ h. quiet 11 (f.is h) (rw e) (omega arith) (rw (f.after h)) (f.declared h) (eq-eqb _ _ (sym same ∙ f.long h)) refl (λ aall nall seen. refl);
  }

  pub field_sg2d : tag ≡ 1397174852 → GroupsField (length c) 8 marks prev 3 8 r → PlainField update stage marks prev tag c r
  unfolding kind_of among table as_number bytes placed follows filled row_of is_attributes field_fault Each
  field_sg2d e f = record {
    told = λ h. quiet 8 (f.is h) (rw e) (omega arith)
        (stands_each marks prev 3 8 (λ (p : ℕ). placed update stage p 8 ≡ true) 5 (f.stands h) refl (refl, (refl, (refl, (refl, (refl, refl))))))
        (stands_declared marks prev 3 8 (f.stands h)) (groups_full (shape_of SG2D) c refl (omega arith) (f.full h)) refl (λ aall nall seen. refl);
  }

  pub field_vrpt : tag ≡ 1448235092 → GroupsField (length c) 9 marks prev 3 6 r → PlainField update stage marks prev tag c r
  unfolding kind_of among table as_number bytes placed follows filled row_of is_attributes field_fault Each
  field_vrpt e f = record {
    told = λ h. quiet 6 (f.is h) (rw e) (omega arith)
        (stands_each marks prev 3 6 (λ (p : ℕ). placed update stage p 6 ≡ true) 3 (f.stands h) refl (refl, (refl, (refl, refl))))
        (stands_declared marks prev 3 6 (f.stands h)) (groups_full (shape_of VRPT) c refl (omega arith) (f.full h)) refl (λ aall nall seen. refl);
  }

  pub field_fspt : {n : ℕ} → n ≡ length c → tag ≡ 1179865172 → GroupsField n 8 marks prev 11 17 r → PlainField update stage marks prev tag c r
  unfolding kind_of among table as_number bytes placed follows filled row_of is_attributes field_fault Each
  field_fspt same e f = record {
    told = λ h. quiet 17 (f.is h) (rw e) (omega arith)
        (stands_each marks prev 11 17 (λ (p : ℕ). placed update stage p 17 ≡ true) 6 (f.stands h) refl (refl, (refl, (refl, (refl, (refl, (refl, refl)))))))
        (stands_declared marks prev 11 17 (f.stands h)) (groups_full (shape_of FSPT) c refl (omega arith) (rw same at (f.full h))) refl (λ aall nall seen. refl);
  }

  pub field_vrid : tag ≡ 1448233284 → IdentifierField 8 (vrid_fault update c) c marks prev stage 2 3 r → PlainField update stage marks prev tag c r
  unfolding kind_of among table as_number bytes placed opens filled row_of is_attributes
  field_vrid e f = record {
    told = λ h.
        let due = f.due h in
        let two : stage ≡ 2 = omega arith in
        rw (f.is h) (record {
          kind = sym (rw e);
          few = omega arith;
          stands = rw (f.after h, two);
          declared = f.declared h;
          full = eq-eqb _ _ (f.long h);
          other = refl;
          judged = plain_vrid tt refl (told_ok (f.fine h));
        });
  }

  pub field_frid : tag ≡ 1179797828 → IdentifierField 12 (frid_fault update c) c marks prev stage 3 10 r → PlainField update stage marks prev tag c r
  unfolding kind_of among table as_number bytes placed opens filled row_of is_attributes Each
  field_frid e f = record {
    told = λ h.
        let due = f.due h in
        rw (f.is h) (record {
          kind = sym (rw e);
          few = omega arith;
          stands = rw (f.after h) (each_one (λ (x : ℕ). placed update x 18 FRID ≡ true) 2 1 stage (refl, refl) due.0 due.1);
          declared = f.declared h;
          full = eq-eqb _ _ (f.long h);
          other = refl;
          judged = plain_frid tt refl (told_ok (f.fine h));
        });
  }

  pub field_ffpt : tag ≡ 1179013204 → PointersField c marks prev 11 15 r → PlainField update stage marks prev tag c r
  unfolding kind_of among table as_number bytes placed follows filled row_of is_attributes Each
  field_ffpt e f = record {
    told = λ h. rw (f.is h) (record {
      kind = sym (rw e);
      few = omega arith;
      stands = stands_each marks prev 11 15 (λ (p : ℕ). placed update stage p 15 ≡ true) 4 (f.stands h) refl (refl, (refl, (refl, (refl, refl))));
      declared = stands_declared marks prev 11 15 (f.stands h);
      full = (f.fine h).full refl;
      other = refl;
      judged = plain_ffpt tt refl (told_ok ((f.fine h).judged refl));
    });
  }

-- the content as it is lent
pub lent_as : {update : Bool} {stage : ℕ} {marks : List ℕ} {prev tag : ℕ} {r : ℕ} (d : List ℕ) → PlainField update stage marks prev tag (take (length d - 1 - 0) (drop 0 d)) r
    → PlainField update stage marks prev tag (content_in d) r
lent_as d f = let e : length d - 1 - 0 ≡ length d - 1 = omega arith in rw e at f

pub stop_as : {d : List ℕ} → Ended d → length d - 1 ≡ length (content_in d)
stop_as e = sym (content_long e)

-- ---- any field: the table stays
pub field_plain : {update : Bool} {stage : ℕ} {marks : List ℕ} {aall nall prev tag : ℕ} {c : List ℕ} {stamp fresh : ℕ} {t : List ℕ} {r : ℕ}
    → PlainField update stage marks prev tag c r
    → FieldTold update stage marks aall nall prev tag c stamp fresh t t r
field_plain f = record {
  told = λ h.
      let g = f.told h in
      record { kind = g.kind; few = g.few; stands = g.stands; declared = g.declared; full = g.full; judged = judged_plain g.other g.judged };
}

-- ---- a list of attributes
module _ {update : Bool} {stage : ℕ} {marks : List ℕ} {aall nall prev tag : ℕ} {c : List ℕ} {stamp fresh : ℕ} {t u : List ℕ} {r : ℕ} where
  pub field_attv : tag ≡ 1096045654 → AttributesField update false c marks prev 3 4 (cond (eqb prev 4) stamp fresh) t u r
      → FieldTold update stage marks aall nall prev tag c stamp fresh t u r
  unfolding kind_of among table as_number bytes placed follows filled row_of Each
  field_attv e f = record {
    told = λ h. rw (f.is h) (record {
      kind = sym (rw e);
      few = omega arith;
      stands = stands_each marks prev 3 4 (λ (p : ℕ). placed update stage p 4 ≡ true) 1 (f.stands h) refl (refl, refl);
      declared = stands_declared marks prev 3 4 (f.stands h);
      full = (f.fine h).full refl;
      judged = judged_attv refl ((f.fine h).judged refl);
    });
  }

  pub field_attf : tag ≡ 1096045638 → AttributesField update (eqb aall 1) c marks prev 11 12 (cond (eqb prev 12) stamp fresh) t u r
      → FieldTold update stage marks aall nall prev tag c stamp fresh t u r
  unfolding kind_of among table as_number bytes placed follows filled row_of Each
  field_attf e f = record {
    told = λ h. rw (f.is h) (record {
      kind = sym (rw e);
      few = omega arith;
      stands = stands_each marks prev 11 12 (λ (p : ℕ). placed update stage p 12 ≡ true) 1 (f.stands h) refl (refl, refl);
      declared = stands_declared marks prev 11 12 (f.stands h);
      full = (f.fine h).full refl;
      judged = judged_attf refl ((f.fine h).judged refl);
    });
  }

  pub field_natf : tag ≡ 1312904262 → AttributesField update (eqb nall 1) c marks prev 11 13 (cond (eqb prev 13) stamp fresh) t u r
      → FieldTold update stage marks aall nall prev tag c stamp fresh t u r
  unfolding kind_of among table as_number bytes placed follows filled row_of Each
  field_natf e f = record {
    told = λ h. rw (f.is h) (record {
      kind = sym (rw e);
      few = omega arith;
      stands = stands_each marks prev 11 13 (λ (p : ℕ). placed update stage p 13 ≡ true) 2 (f.stands h) refl (refl, (refl, refl));
      declared = stands_declared marks prev 11 13 (f.stands h);
      full = (f.fine h).full refl;
      judged = judged_natf refl ((f.fine h).judged refl);
    });
  }
