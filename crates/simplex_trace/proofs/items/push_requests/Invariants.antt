use Rattle.std.proofs.Common.{◌≡◌, ◌++◌, take}
use Rattle.std.specs.Prelude.{string_bytes}
use Rattle.std.specs.List.{flat_map, enumerate_from}
use Rattle.simplex_trace.specs.Items.{item, request_text}
use Rattle.simplex_trace.proofs.items.push_requests.Given as goal

abbrev pub invariant-loop-place : goal.invariant-loop-place
invariant-loop-place l =
    string_bytes l.text ≡ string_bytes l.fn.text ++ flat_map (λ placed. item (request_text l.event placed)) (enumerate_from 0 (take l.place l.requests))
