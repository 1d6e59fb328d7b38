-- What a fetcher does, in the protocol's words.
use Rattle.std.specs.Prelude.{◌≡◌, ℕ, ◌+◌, ◌<◌, false, List, [], length, Option, Some}
use Rattle.std.specs.List.{Contains}
use Rattle.simplex_values.specs.declared.ask.Ask.{Ask}
use Rattle.model_resolver.specs.declared.config.FetchConfig.{FetchConfig}
use Rattle.model_resolver.specs.declared.entry.Entry.{Entry}
use Rattle.model_resolver.specs.declared.out.Out.TheVariants as out
use Rattle.model_resolver.specs.Asks.{holds_member}
use Rattle.model_resolver.specs.Fetcher.{Machine, unblocked, others_of, peer_of, heard, served}
use Rattle.model_resolver.specs.Views.{asked_view}

-- of the next attempts of a view, as many as there are other members that are not blocked, one asks each of them
abbrev pub AsksAll : FetchConfig → (blocked : List ℕ) → ℕ → Entry → Type 0
AsksAll config blocked view entry =
    let peers = unblocked blocked (others_of config) in
    (peer : ℕ) → Contains peers peer
    → (more : ℕ) × (more < length peers)
    × (peer_of config blocked view (record entry { attempts = entry.attempts + more }) ≡ Some peer)

-- no attempt asks a member that is blocked
abbrev pub AsksNoneBlocked : FetchConfig → (blocked : List ℕ) → ℕ → Entry → Type 0
AsksNoneBlocked config blocked view entry = (peer : ℕ) → peer_of config blocked view entry ≡ Some peer
    → holds_member blocked peer ≡ false

-- what is delivered of a message answers the request that was open with its sender, under the number that it names
abbrev pub DeliversOpen : Machine → ℕ → List ℕ → ℕ → Type 0
DeliversOpen fetcher sender bytes now =
    (id view : ℕ) (answer : List ℕ) (asks : List Ask)
    → Contains (heard sender bytes now fetcher).outs (out.Deliver id view answer asks)
    → asked_view id sender fetcher.views ≡ Some view

-- a second answer to a request is not sent
abbrev pub ServesOnce : Machine → ℕ → Type 0
ServesOnce fetcher id =
    (first second : Option (List ℕ)) → (served id second (served id first fetcher).fetcher).outs ≡ []
