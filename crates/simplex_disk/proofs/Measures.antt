-- Whole records behind open gates, one by one.
use Rattle.std.proofs.Common.{◌≡◌, ℕ, zero, suc, ◌+◌, ◌-◌, ◌^◌, ◌≤◌, ltb, List, [], ◌∷◌, ◌++◌, length, take, drop, Option, None, Some, Result, Ok, Err, refl, sym, ap, subst, ◌∙◌, arith, append_assoc, length-append, inl, inr}
use Rattle.std.specs.List.{AllByRecursion}
use Rattle.std.specs.Prelude.{slice_get}
use Rattle.std.specs.Result.{result_ok}
use Rattle.std.proofs.lemmas.Bool.{ltb-false, cases_eq}
use Rattle.std.proofs.lemmas.Bool.Decides.{nat_tests}
use Rattle.std.proofs.lemmas.List.{take-append-drop, length-take, append-nil}
use Rattle.simplex_wire.specs.declared.artifact.Artifact.{Artifact}
use Rattle.simplex_wire.specs.declared.error.DecodeError.{DecodeError}
use Rattle.simplex_wire.specs.declared.error.DecodeError.TheVariants.{Fault}
use Rattle.simplex_wire.specs.declared.error.DecodeCause.TheVariants.{Short}
use Rattle.simplex_wire.specs.Format.{◌>>=◌, whole}
use Rattle.simplex_wire.specs.Fits.{IsBytes}
use Rattle.simplex_wire.specs.Number.{varint, number_from}
use Rattle.simplex_wire.specs.Artifact.{artifact, FitsArtifact}
use Rattle.simplex_wire.proofs.Bytes.{IsBytes-take, bind_ok, guard_ok, ok_is}
use Rattle.simplex_wire.proofs.Numbers.{number_takes, limit64}
use Rattle.simplex_wire.proofs.Formats.{whole_takes}
use Rattle.simplex_wire.proofs.Artifacts.{artifact_is}
use Rattle.simplex_disk.specs.Chain.{record_bytes, Reads, chain, open_blocks, total, framed, block, opened, opened_by, taken}
use Rattle.simplex_disk.specs.Opening.{BeginsWith, GoesOn}
use Rattle.simplex_disk.proofs.Chain.{chain-open, length-chain, records-open, length-total, opened-open}
use Rattle.simplex_disk.proofs.Segments.{AllByRecursion-join}
use Rattle.simplex_disk.proofs.Walks.{opened-taken, and_more}

-- What a block reads is spelled so.
pub block_takes : (bytes : List ℕ) (a : Artifact) (behind : List ℕ) → IsBytes bytes → block bytes ≡ Ok (a, behind) → Reads a × (bytes ≡ record_bytes a ++ behind)
unfolding block
block_takes bytes a behind fits is =
    let step = bind_ok (number_from 0 (2 ^ 64 - 1) bytes) framed (a, behind) is in
    let x = step.0 in
    let t = number_takes 0 (2 ^ 64 - 1) bytes x.0 x.1 fits limit64 step.1 in
    let z = guard_ok (ltb (length x.1) x.0) (Fault Short 0) (whole artifact (take x.0 x.1) >>= λ a. Ok (a, drop x.0 x.1)) (a, behind) step.2 in
    let long : x.0 ≤ length x.1 = ltb-false _ _ z.0 in
    let found = bind_ok (whole artifact (take x.0 x.1)) (λ a. Ok (a, drop x.0 x.1)) (a, behind) z.1 in
    let pair = ok_is (found.0, drop x.0 x.1) (a, behind) found.2 in
    let same : found.0 ≡ a = ap (λ (p : Artifact × List ℕ). p.0) pair in
    let rest : drop x.0 x.1 ≡ behind = ap (λ (p : Artifact × List ℕ). p.1) pair in
    let read : whole artifact (take x.0 x.1) ≡ Ok a = found.1 ∙ ap (λ (b : Artifact). let r : Result Artifact DecodeError = Ok b in r) same in
    let w = whole_takes artifact FitsArtifact artifact_is (take x.0 x.1) a (IsBytes-take x.0 x.1 t.1) read in
    let size : length (artifact.spelling a) ≡ x.0 = ap length (sym w.0) ∙ omega (arith, length-take x.0 x.1, long) in
    let whole_is : bytes ≡ varint x.0 ++ (take x.0 x.1 ++ drop x.0 x.1) = t.0 ∙ ap (λ (l : List ℕ). varint x.0 ++ l) (sym (take-append-drop x.0 x.1)) in (
      record { again = ap (λ (l : List ℕ). whole artifact l) (sym w.0) ∙ read; short = omega (arith, size, t.2) },
      whole_is
          ∙ ap (λ (l : List ℕ). varint x.0 ++ (l ++ drop x.0 x.1)) w.0
          ∙ ap (λ (l : List ℕ). varint x.0 ++ (artifact.spelling a ++ l)) rest
          ∙ ap (λ (k : ℕ). varint k ++ (artifact.spelling a ++ behind)) (sym size)
          ∙ sym (append_assoc (varint (length (artifact.spelling a))) (artifact.spelling a) behind),
    )

from_some : (r : Result (Artifact × List ℕ) DecodeError) (a : Artifact) (behind : List ℕ) → result_ok r ≡ Some (a, behind) → r ≡ Ok (a, behind)
from_some (Ok x) a behind is = cc
from_some (Err e) a behind is = absurd cc

-- An open gate and a record are at the front.
pub goes_on : (rest : List ℕ) (a : Artifact) (behind : List ℕ) → IsBytes rest → taken (1 ∷ rest) ≡ Some (a, behind) → GoesOn (1 ∷ rest) (Some behind)
unfolding taken
goes_on rest a behind fits is =
    let t = block_takes rest a behind fits (from_some (block rest) a behind is) in
    (a, t.0, ap (λ (l : List ℕ). 1 ∷ l) t.1)

-- They are not.
pub no_record : (rest : List ℕ) → taken (1 ∷ rest) ≡ None → GoesOn (1 ∷ rest) None
unfolding opened_by
no_record rest none = λ n. at n
  where
    at : (n : ℕ) → opened_by n (1 ∷ rest) ≡ []
    at zero = refl
    at (suc n) = opened-taken n rest ∙ ap (λ (o : Option (Artifact × List ℕ)). and_more (opened_by n) o) none

pub no_gate : (gate : ℕ) (rest : List ℕ) → (gate ≡ 1 → ⊥) → GoesOn (gate ∷ rest) None
unfolding opened_by
no_gate gate rest other = λ n. at n
  where
    at : (n : ℕ) → opened_by n (gate ∷ rest) ≡ []
    at zero = refl
    at (suc n) = elim (cases_eq gate 1) [
      | inl one ↦ absurd (other one)
      | inr differs ↦ grind (arith, nat_tests)
    ]

pub no_bytes : GoesOn [] None
unfolding opened_by
no_bytes = λ n. at n
  where
    at : (n : ℕ) → opened_by n [] ≡ []
    at zero = refl
    at (suc n) = refl

-- So far these records were read.
pub record Front (bytes rest : List ℕ) (count : ℕ) : Type 0 where
  pub records : List Artifact
  pub reads : AllByRecursion Reads records
  pub whole : bytes ≡ chain (open_blocks records) rest
  pub size : length records ≡ count

pub front_none : (bytes : List ℕ) → Front bytes bytes 0
unfolding chain open_blocks
front_none bytes = record { records = []; reads = tt; whole = refl; size = refl }

pub front_more : (bytes rest behind : List ℕ) (count : ℕ) → Front bytes rest count → GoesOn rest (Some behind) → Front bytes behind (count + 1)
unfolding chain open_blocks
front_more bytes rest behind count f more = record {
  records = f.records ++ more.0 ∷ [];
  reads = AllByRecursion-join f.records (more.0 ∷ []) f.reads (more.1, tt);
  whole = f.whole ∙ ap (λ (l : List ℕ). chain (open_blocks f.records) l) more.2 ∙ sym (chain-open f.records (more.0 ∷ []) behind);
  size = omega (arith, length-append f.records (more.0 ∷ []), f.size);
}

pub front_length : (bytes rest : List ℕ) (count : ℕ) (f : Front bytes rest count) → length bytes ≡ total f.records + length rest
front_length bytes rest count f = ap length f.whole ∙ omega (arith, length-chain (open_blocks f.records) rest, ap total (records-open f.records))

pub front_count : (bytes rest : List ℕ) (count : ℕ) → Front bytes rest count → count ≤ length bytes
front_count bytes rest count f = omega (arith, front_length bytes rest count f, length-total f.records, f.size)

-- These are the records that are read in the file.
pub begins_opened : (records : List Artifact) (bytes : List ℕ) → BeginsWith records bytes → opened bytes ≡ records
begins_opened records bytes b =
    let size : length bytes ≡ total records + length b.end = ap length b.whole ∙ omega (arith, length-chain (open_blocks records) b.end, ap total (records-open records)) in
    let n = length bytes - length records in
    let long : length bytes ≡ length records + n = omega (arith, size, length-total records) in
    ap (λ (k : ℕ). opened_by k bytes) long
    ∙ ap (λ (l : List ℕ). opened_by (length records + n) l) b.whole
    ∙ opened-open n records b.end b.reads
    ∙ ap (λ (l : List Artifact). records ++ l) (b.no_more n)
    ∙ append-nil records

-- ---- by the first byte

pub front_absent : (bytes : List ℕ) → slice_get bytes 0 ≡ None → GoesOn bytes None
front_absent [] is = no_bytes
front_absent (gate ∷ rest) is = absurd cc

pub front_other : (bytes : List ℕ) (gate : ℕ) → slice_get bytes 0 ≡ Some gate → (gate ≡ 1 → ⊥) → GoesOn bytes None
front_other [] gate is other = absurd cc
front_other (g ∷ rest) gate is other = no_gate g rest (λ one. other (let same : g ≡ gate = cc (is) in sym same ∙ one))

pub front_broken : (bytes : List ℕ) (gate : ℕ) → slice_get bytes 0 ≡ Some gate → gate ≡ 1 → taken bytes ≡ None → GoesOn bytes None
front_broken [] gate is one none = absurd cc
front_broken (g ∷ rest) gate is one none =
    let open_gate : g ≡ 1 = cc (is, one) in
    subst (λ (k : ℕ). GoesOn (k ∷ rest) None) (sym open_gate) (no_record rest (subst (λ (k : ℕ). taken (k ∷ rest) ≡ None) open_gate none))

pub front_whole : (bytes : List ℕ) (gate : ℕ) (a : Artifact) (behind : List ℕ) → IsBytes bytes → slice_get bytes 0 ≡ Some gate → gate ≡ 1 → taken bytes ≡ Some (a, behind) → GoesOn bytes (Some behind)
front_whole [] gate a behind fits is one some = absurd cc
front_whole (g ∷ rest) gate a behind fits is one some =
    let open_gate : g ≡ 1 = cc (is, one) in
    subst (λ (k : ℕ). GoesOn (k ∷ rest) (Some behind)) (sym open_gate) (goes_on rest a behind (λ i. fits (suc i)) (subst (λ (k : ℕ). taken (k ∷ rest) ≡ Some (a, behind)) open_gate some))
