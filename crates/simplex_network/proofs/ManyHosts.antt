-- One host of many.
use Rattle.std.proofs.Common.{◌≡◌, ◌≢◌, ℕ, List, [], ◌∷◌, ◌++◌, Bool, true, false, arith, refl, sym, subst, if◌then◌else◌, length, get_or, set, ◌<◌, suc, zero, ap, ◌∙◌, ◌+◌}
use Rattle.std.specs.Prelude.{◌==◌, Some}
use Rattle.std.specs.List.{slice_get}
use Rattle.std.proofs.lemmas.Grind.{common_steps}
use Rattle.std.proofs.lemmas.List.{length_push}
use Rattle.std.proofs.lemmas.Option.{slice_get-get_or}
use Rattle.simplex_transcript.specs.declared.node.Node.{Node}
use Rattle.simplex_transcript.specs.declared.setup.Setup.{Setup}
use Rattle.simplex_records.specs.Seats.{seat_of, node_at}
use Rattle.simplex_records.proofs.Seating.{same-seat, seated}
use Rattle.simplex_network.specs.declared.host.Host.{Host}
use Rattle.simplex_network.specs.Parts.{Part, changed}
use Rattle.simplex_network.specs.Stands.{HostStands, HostsStand, HasSeat}
use Rattle.simplex_network.proofs.Lists.{slice_get-set, slice_get-set_other}

-- ---- hosts

pub hosts-like : (setup : Setup) (list : List Host) (parts others : Node → Part) → ((node : Node) → parts node ≡ others node) → HostsStand setup list parts
    → HostsStand setup list others
unfolding HostsStand
hosts-like setup list parts others same stand = λ at host is. subst (λ part. HostStands setup (node_at at).member host part) (same (node_at at)) (stand at host is)

changed_at : (setup : Setup) (list : List Host) (parts : Node → Part) (node : Node) (host : Host) (part : Part) → node.half < 2
    → HostsStand setup list parts → HostStands setup node.member host part → (k : ℕ) (other : Host) → slice_get (set list (seat_of node) host) k ≡ Some other
    → (b : Bool) → (seat_of node == k) ≡ b → HostStands setup (node_at k).member other (if b then part else parts (node_at k))
unfolding HostsStand
changed_at setup list parts node host part half stand here k other is true e =
    let same : seat_of node ≡ k = grind (arith, common_steps) in
    let it : other ≡ host = slice_get-set list (seat_of node) k host other is same in
    subst (λ j. HostStands setup (node_at j).member other part) same (rw (seated node half) (rw it here))
changed_at setup list parts node host part half stand here k other is false e =
    let apart : seat_of node ≢ k = grind (arith, common_steps) in stand k other (sym (slice_get-set_other list (seat_of node) k host apart) ∙ is)

-- one host changes
pub hosts-set : (setup : Setup) (list : List Host) (parts : Node → Part) (node : Node) (host : Host) (part : Part) → node.half < 2
    → HostsStand setup list parts → HostStands setup node.member host part → HostsStand setup (set list (seat_of node) host) (changed node part parts)
unfolding HostsStand changed
hosts-set setup list parts node host part half stand here =
    λ k other is.
    subst (λ (b : Bool). HostStands setup (node_at k).member other (if b then part else parts (node_at k))) (sym (same-seat node k half))
    (changed_at setup list parts node host part half stand here k other is (seat_of node == k) refl)

kept_at : (setup : Setup) (list : List Host) (parts : Node → Part) (node : Node) (host : Host) → node.half < 2
    → HostsStand setup list parts → HostStands setup node.member host (parts node) → (k : ℕ) (other : Host) → slice_get (set list (seat_of node) host) k ≡ Some other
    → (b : Bool) → (seat_of node == k) ≡ b → HostStands setup (node_at k).member other (parts (node_at k))
unfolding HostsStand
kept_at setup list parts node host half stand here k other is true e =
    let same : seat_of node ≡ k = grind (arith, common_steps) in
    let it : other ≡ host = slice_get-set list (seat_of node) k host other is same in
    subst (λ j. HostStands setup (node_at j).member other (parts (node_at j))) same (rw (seated node half) (rw it here))
kept_at setup list parts node host half stand here k other is false e =
    let apart : seat_of node ≢ k = grind (arith, common_steps) in stand k other (sym (slice_get-set_other list (seat_of node) k host apart) ∙ is)

-- one host is set, and does as before
pub hosts-kept : (setup : Setup) (list : List Host) (parts : Node → Part) (node : Node) (host : Host) → node.half < 2
    → HostsStand setup list parts → HostStands setup node.member host (parts node) → HostsStand setup (set list (seat_of node) host) parts
unfolding HostsStand
hosts-kept setup list parts node host half stand here = λ k other is. kept_at setup list parts node host half stand here k other is (seat_of node == k) refl

-- a host that is read
pub hosts-at : (setup : Setup) (list : List Host) (parts : Node → Part) (node : Node) (host : Host) (part : Part)
    → HostsStand setup list parts → HasSeat list node → host ≡ get_or list (seat_of node) host → parts node ≡ part → HostStands setup node.member host part
unfolding HostsStand
hosts-at setup list parts node host part stand seat is does =
    let found = stand (seat_of node) host (slice_get-get_or list (seat_of node) host seat.1 ∙ ap (λ h. Some h) (sym is)) in
    rw does at (rw (seated node seat.0) at found)

push_at : (Q : ℕ → Host → Type 0) (list : List Host) (host : Host) → ((at : ℕ) (h : Host) → slice_get list at ≡ Some h → Q at h) → Q (length list) host
    → (at : ℕ) (h : Host) → slice_get (list ++ host ∷ []) at ≡ Some h → Q at h
push_at Q [] host all one zero h is = let e : h ≡ host = cc in rw e one
push_at Q [] host all one (suc at) h is = absurd (cc)
push_at Q (x ∷ list) host all one zero h is = all zero h is
push_at Q (x ∷ list) host all one (suc at) h is = push_at (λ k. Q (suc k)) list host (λ k y e. all (suc k) y e) one at h is

-- no host is made yet, or one more
pub no-hosts : (setup : Setup) (parts : Node → Part) → HostsStand setup [] parts
unfolding HostsStand
no-hosts setup parts = λ at host is. absurd (cc)

pub hosts-push : (setup : Setup) (parts : Node → Part) (list new : List Host) (host : Host) (count : ℕ) → new ≡ list ++ host ∷ [] → length list ≡ count
    → HostsStand setup list parts → HostStands setup (node_at count).member host (parts (node_at count)) → HostsStand setup new parts
unfolding HostsStand
hosts-push setup parts list new host count is counted stand one =
    rw is (push_at (λ at h. HostStands setup (node_at at).member h (parts (node_at at))) list host stand (rw counted one))

pub length-pushed : (list new : List Host) (host : Host) (count : ℕ) → new ≡ list ++ host ∷ [] → length list ≡ count → length new ≡ count + 1
length-pushed list new host count is was = rw is (omega (arith, length_push list host))
