-- What is known of blocks, by their digests.
use Rattle.std.specs.Prelude.{ℕ, ◌≡◌, Bool, false, List, [], Option, Some, None, is_some}
use Rattle.std.specs.Ordering.{nat_cmp}
use Rattle.std.specs.declared.cmp.Ordering.{Ordering}
use Rattle.std.specs.Cmp.Lexicographic.{slice_cmp}
use Rattle.std.specs.BTreeMap as tree
use Rattle.std.specs.Option.{option_map, option_map_or}
use Rattle.model_ledger.specs.declared.transfer.Transfer.{Transfer}
use Rattle.model_ledger.specs.Blocks.{is_sound, transfers_of}
use Rattle.model_ledger.specs.Doubles.{place_from}
use Rattle.simplex_ledger.specs.declared.index.Found.{Found}
use Rattle.simplex_ledger.specs.declared.index.Index.{Index}

abbrev pub in_order : List ℕ → List ℕ → Ordering
in_order a b = slice_cmp nat_cmp a b

unfoldable pub found_at : Index → List ℕ → Option Found
found_at index digest = tree.get in_order index.found digest

abbrev pub place_of : Option Found → Option ℕ
place_of found = option_map (λ f. f.place) found

-- a block was found, and decodes
abbrev pub is_good : Option Found → Bool
is_good found = option_map_or (λ f. is_some f.transfers) found false

abbrev pub transfers_or_none : Option (List Transfer) → List Transfer
transfers_or_none None = []
transfers_or_none (Some transfers) = transfers

-- its transfers
abbrev pub transfers_found : Option Found → List Transfer
transfers_found found = option_map_or (λ f. transfers_or_none f.transfers) found []

-- each digest leads to the first block that has it
pub record IsIndexOf (index : Index) (blocks : List (List ℕ)) : Type 0 where
  pub places : (digest : List ℕ) → place_of (found_at index digest) ≡ place_from 0 blocks digest
  pub sound : (digest : List ℕ) → is_good (found_at index digest) ≡ is_sound blocks digest
  pub transfers : (digest : List ℕ) → transfers_found (found_at index digest) ≡ transfers_of blocks digest
