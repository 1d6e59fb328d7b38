use Rattle.std.proofs.Common.{rules, ◌≡◌, string_bytes, List, refl, sym, subst}
use Rattle.simplex_transcript.specs.declared.entry.Entry.{Entry}
use Rattle.law_log.specs.Transcripts.{IsTranscript}
use Rattle.law_ledger.specs.Lines.{lines_of}
use Rattle.law_ledger.specs.Whole.{IsLedgerOf}
use Rattle.law_log.specs.Logs.{logs_in}
use Rattle.simplex_ledgers.specs.Sound.{AllAreSound}
use Rattle.simplex_ledgers.proofs.Balanced.{transcript_of, accounts_fine, has_ledger, has_blocks}
use Rattle.simplex_ledgers.proofs.work.tell.Goals as goal

pub logs-requires : goal.logs-requires
logs-requires c =
    let setup = c.args.setup.now in
    let events = c.requires.0 in
    (events, subst (λ (entries : List Entry). IsTranscript setup events entries) (sym c.as_slice.ensures) (transcript_of setup events c.args.transcript c.requires.1))

pub lines-requires-clause-accounts : goal.lines-requires-clause-accounts
lines-requires-clause-accounts c = accounts_fine c.args.setup.now c.args.transcript.entries c.requires.0 c.args.accounts.now c.args.blocks.now c.requires.2

pub lines-requires-clause-sound : goal.lines-requires-clause-sound
lines-requires-clause-sound c =
    let setup = c.args.setup.now in
    let accounts = c.args.accounts.now in
    let blocks = c.args.blocks.now in
    let same : c.in_ok-logs.logs ≡ logs_in setup c.args.transcript.entries = search rules in
    let ledger = has_ledger setup c.requires.0 accounts blocks c.args.transcript c.in_ok-logs.logs c.ledger_of_a_whole_run.ensures c.requires.1 c.requires.2 same in
    subst (AllAreSound blocks) (sym c.as_slice-2.ensures) (has_blocks setup c.args.transcript.entries accounts blocks c.in_ok-logs.logs ledger same)

pub returns : goal.returns
returns c =
    let setup = c.args.setup.now in
    let accounts = c.args.accounts.now in
    let blocks = c.args.blocks.now in
    let same : c.in_ok-logs.logs ≡ logs_in setup c.args.transcript.entries = search rules in
    let told : string_bytes c.in_ok-text.text ≡ lines_of blocks accounts c.in_ok-logs.logs = search rules in
    record {
      same = refl;
      ledger = has_ledger setup c.requires.0 accounts blocks c.args.transcript c.in_ok-logs.logs c.ledger_of_a_whole_run.ensures c.requires.1 c.requires.2 same;
      told = told;
    }
