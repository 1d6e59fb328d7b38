-- Names for what a clause unfolds to compute a sample: an attribute cites one of them, and each cites those below it.
use Rattle.std.specs.Prelude.{⊤}
use Rattle.rand_chacha.specs.Block.{block_word, column_round, diagonal_round, double_rounds, quarter_round}
use Rattle.rand_core.specs.Steps.{u32_at}
use Rattle.sha2.specs.Sha256.{compress, digest_bytes, first_words, hash_after, rounds, schedule, sha256}
use Rattle.model_faults.specs.Conflicter.{conflicter_drew, conflicter_sends, drawn_payload}
use Rattle.model_faults.specs.Equivocator.{answered, equivocates, equivocator_drew, equivocator_sends, was_heard}
use Rattle.model_faults.specs.Heard.{certificate_heard, own_vote, subject_heard, votes_to_all}
use Rattle.model_faults.specs.Impersonator.{impersonator_sends}
use Rattle.model_faults.specs.Nuller.{nuller_sends}
use Rattle.model_faults.specs.NullifyOnly.{nullify_only_sends}
use Rattle.model_faults.specs.Outdated.{outdated_sends, stored_at}
use Rattle.model_faults.specs.Reconfigurer.{reconfigurer_sends}
use Rattle.model_faults.specs.Words.{Draws, list_seed, member_seed, words_of}
use Rattle.model_faults.specs.Wrapped.{all_turned, corrupted, first_bit, turned, wrapped_attests}
use Rattle.simplex_wire.specs.Message.{attestation, attestation_from, attestations_from, certificate, finalization, finalize, notarization, notarize, nullification, nullify, proposal, round, signatures, vote}
use Rattle.simplex_wire.specs.Number.{number_from, varint_by}
use Rattle.simplex_wire.specs.ResolverMessage.{body, resolver_message}

-- what computes what faulty members send, random words too
unfoldable pub faults : ⊤
unfolding conflicter_drew conflicter_sends drawn_payload answered equivocates equivocator_drew equivocator_sends
    was_heard certificate_heard own_vote subject_heard votes_to_all impersonator_sends nuller_sends nullify_only_sends
    outdated_sends stored_at reconfigurer_sends Draws list_seed member_seed words_of all_turned corrupted first_bit
    turned wrapped_attests block_word column_round diagonal_round double_rounds quarter_round u32_at compress
    digest_bytes first_words hash_after rounds schedule sha256 attestation attestation_from attestations_from
    certificate finalization finalize notarization notarize nullification nullify proposal round signatures vote
    number_from varint_by body resolver_message
faults = tt
