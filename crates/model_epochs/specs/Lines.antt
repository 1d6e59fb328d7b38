-- The text of chains.
use Rattle.std.specs.Prelude.{ℕ, Bool, List, [], ◌∷◌, ◌++◌, filter, flat_map, codes, decimal}
use Rattle.std.specs.List.{list_all, enumerate_from, range_with_len}
use Rattle.hex.specs.Hex.{encode_lower}
use Rattle.simplex_text.specs.Lines.{pieces}
use Rattle.model_run.specs.Kinds.{is_honest, members_of}
use Rattle.model_epochs.specs.declared.chain.ChainEntry.{ChainEntry}
use Rattle.model_epochs.specs.Chain.{chain_of}
use Rattle.model_epochs.specs.Epochs.{Input, Ran, member_logs}

-- the line on the genesis digest of an epoch
abbrev pub genesis_line : ℕ → List ℕ → List ℕ
genesis_line epoch genesis = pieces (codes "epoch " ∷ decimal epoch ∷ codes " genesis " ∷ encode_lower genesis ∷ codes "\n" ∷ [])

-- of these epochs
unfoldable pub genesis_lines : List Input → List Ran → List ℕ
genesis_lines [] rans = []
genesis_lines (input ∷ later) [] = []
genesis_lines (input ∷ later) (ran ∷ rest) = genesis_line input.setup.epoch ran.genesis ++ genesis_lines later rest

-- of each epoch but the first
abbrev pub later_lines : List Input → List Ran → List ℕ
later_lines [] rans = []
later_lines (input ∷ later) [] = []
later_lines (input ∷ later) (ran ∷ rest) = genesis_lines later rest

-- the line of a chain's entry at this place, from 1
abbrev pub entry_line : ℕ → ℕ × ChainEntry → List ℕ
entry_line member placed =
    pieces (codes "member " ∷ decimal member ∷ codes " entry " ∷ decimal placed.0 ∷ codes " epoch " ∷ decimal placed.1.epoch
    ∷ codes " view " ∷ decimal placed.1.entry.view ∷ codes " payload " ∷ encode_lower placed.1.entry.payload ∷ codes "\n" ∷ [])

-- the member's chain
abbrev pub member_lines : ℕ → List Input → List Ran → ℕ → List ℕ
member_lines height inputs rans member = flat_map (entry_line member) (enumerate_from 1 (chain_of height (member_logs inputs rans member)))

-- the members that exist and are honest in each epoch, in rising order
abbrev pub is_honest_in : List Input → ℕ → Bool
is_honest_in inputs member = list_all (λ input. is_honest input.setup member) inputs

abbrev pub lasting_members : List Input → List ℕ
lasting_members [] = []
lasting_members (input ∷ later) = filter (is_honest_in (input ∷ later)) (range_with_len 0 (members_of input.setup))

-- the genesis digests, then the chains
unfoldable pub chain_lines : ℕ → List Input → List Ran → List ℕ
chain_lines height inputs rans = later_lines inputs rans ++ flat_map (member_lines height inputs rans) (lasting_members inputs)
