-- DSSI as it is written reads as its numbers. Assumes nothing.
use Prim.Native.Nat.{ℕ, ◌+◌, ◌≤◌}
use mathlib.Core.Bool.{false}
use mathlib.Core.List.{List, [], ◌∷◌, ◌++◌}
use mathlib.Core.Path.{◌≡◌, refl}
use native.Mathlib.Omega.{arith}
use lib.ListN.{length}
use borrow.Author.Tests.{le-leb}
use Rattle.octets.proofs.ListLaws.{has_self}
use Rattle.octets.specs.Number.{byte_at, num_at, bytes_of}
use Rattle.octets.specs.Area.{Has}
use Rattle.octets.proofs.AreaLaws.{has_left, has_right}
use Rattle.octets.proofs.NumberLaws.{num_read}
use Rattle.values.specs.Fault.{fault_at}
use Rattle.values.specs.Fault as fault
use Rattle.headvalues.specs.Dssi.{none_good, dssi_fault}
use Rattle.counted.specs.declared.counts.Tally.{Tally}
use Rattle.counted.specs.Tallies.{AtMost}
use Rattle.header.specs.Dssi.{feature_counts, vector_counts, dssi_bytes}

pub record DssiRead (v : List ℕ) (aall nall : ℕ) (t : Tally) : Type 0 where
  pub long : length v ≡ 35
  pub two_is : byte_at v 0 ≡ 2
  pub aall_is : byte_at v 1 ≡ aall
  pub nall_is : byte_at v 2 ≡ nall
  pub meta_is : num_at v 3 4 ≡ t.meta
  pub nocr_is : num_at v 7 4 ≡ 0
  pub geo_is : num_at v 11 4 ≡ t.geo
  pub collection_is : num_at v 15 4 ≡ t.collection
  pub isolated_is : num_at v 19 4 ≡ t.isolated
  pub connected_is : num_at v 23 4 ≡ t.connected
  pub edges_is : num_at v 27 4 ≡ t.edges
  pub nofa_is : num_at v 31 4 ≡ 0

pub dssi_length : (aall nall : ℕ) (t : Tally) → length (dssi_bytes aall nall t) ≡ 35
unfolding dssi_bytes feature_counts vector_counts bytes_of
dssi_length aall nall t = refl

pub dssi_read : (aall nall : ℕ) (t : Tally) → AtMost 5242880 t → DssiRead (dssi_bytes aall nall t) aall nall t
unfolding dssi_bytes feature_counts vector_counts bytes_of
dssi_read aall nall t few =
    let v = dssi_bytes aall nall t in
    let h0 : List ℕ = 2 ∷ aall ∷ nall ∷ [] in
    let r8 = bytes_of 4 0 in
    let r7 = bytes_of 4 t.edges ++ r8 in
    let r6 = bytes_of 4 t.connected ++ r7 in
    let r5 = bytes_of 4 t.isolated ++ r6 in
    let r4 = bytes_of 4 t.collection ++ r5 in
    let r3 = bytes_of 4 t.geo ++ r4 in
    let r2 = bytes_of 4 0 ++ r3 in
    let r1 = bytes_of 4 t.meta ++ r2 in
    let s0 = has_self v in
    let s1 : Has v 3 r1 = has_right h0 r1 s0 in
    let s2 : Has v 7 r2 = has_right (bytes_of 4 t.meta) r2 s1 in
    let s3 : Has v 11 r3 = has_right (bytes_of 4 0) r3 s2 in
    let s4 : Has v 15 r4 = has_right (bytes_of 4 t.geo) r4 s3 in
    let s5 : Has v 19 r5 = has_right (bytes_of 4 t.collection) r5 s4 in
    let s6 : Has v 23 r6 = has_right (bytes_of 4 t.isolated) r6 s5 in
    let s7 : Has v 27 r7 = has_right (bytes_of 4 t.connected) r7 s6 in
    let s8 : Has v 31 r8 = has_right (bytes_of 4 t.edges) r8 s7 in
    record {
      long = refl;
      two_is = refl;
      aall_is = refl;
      nall_is = refl;
      meta_is = num_read 4 t.meta (let m = few.meta_few in omega arith) (has_left (bytes_of 4 t.meta) r2 s1);
      nocr_is = num_read 4 0 (omega arith) (has_left (bytes_of 4 0) r3 s2);
      geo_is = num_read 4 t.geo (let m = few.geo_few in omega arith) (has_left (bytes_of 4 t.geo) r4 s3);
      collection_is = num_read 4 t.collection (let m = few.collection_few in omega arith) (has_left (bytes_of 4 t.collection) r5 s4);
      isolated_is = num_read 4 t.isolated (let m = few.isolated_few in omega arith) (has_left (bytes_of 4 t.isolated) r6 s5);
      connected_is = num_read 4 t.connected (let m = few.connected_few in omega arith) (has_left (bytes_of 4 t.connected) r7 s6);
      edges_is = num_read 4 t.edges (let m = few.edges_few in omega arith) (has_left (bytes_of 4 t.edges) r8 s7);
      nofa_is = num_read 4 0 (omega arith) s8;
    }

pub dssi_fine : (v : List ℕ) (aall nall : ℕ) (t : Tally) → DssiRead v aall nall t → aall ≤ 1 → nall ≤ 1 → dssi_fault false v ≡ 0
unfolding dssi_fault none_good fault_at fault.first
dssi_fine v aall nall t r a b = rw (r.two_is, r.aall_is, r.nall_is, le-leb aall 1 a, le-leb nall 1 b, r.nocr_is, r.nofa_is)
