use Rattle.std.proofs.Common.{◌≡◌, ◌++◌, map, drop}
use Rattle.simplex_messages.specs.declared.call.Call.TheVariants.{Block}
use Rattle.simplex_types.specs.declared.cause.BlockCause.TheVariants.{InvalidSignature}
use Rattle.simplex_batcher.proofs.work.block_signers.Given as goal

abbrev pub invariant-loop-signer : goal.invariant-loop-signer
invariant-loop-signer l =
    l.calls ++ map (λ signer. Block signer InvalidSignature) (drop l.signer-index l.signers) ≡ l.fn.calls ++ map (λ signer. Block signer InvalidSignature) l.signers
