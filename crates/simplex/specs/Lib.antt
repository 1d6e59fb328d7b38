-- The definitions that the contracts of what this crate hands on cite, crate by crate from the bottom. Where two have one name, or a
-- name says too little alone, its subject stands before it.
-- Of plain values: views, windows, policies, quorums.
pub use Rattle.simplex_values.specs.Covers
pub use Rattle.simplex_values.specs.Handoff
pub use Rattle.simplex_values.specs.Policy
pub use Rattle.simplex_values.specs.Proposal
pub use Rattle.simplex_values.specs.Quorum
pub use Rattle.simplex_values.specs.Terms
pub use Rattle.simplex_values.specs.Texts as ValuesTexts
pub use Rattle.simplex_values.specs.Viewport
-- Of messages and their bytes.
pub use Rattle.simplex_wire.specs.Artifact
pub use Rattle.simplex_wire.specs.Assembly
pub use Rattle.simplex_wire.specs.Certified
pub use Rattle.simplex_wire.specs.Fields
pub use Rattle.simplex_wire.specs.Fits
pub use Rattle.simplex_wire.specs.Format as WireFormat
pub use Rattle.simplex_wire.specs.Message
pub use Rattle.simplex_wire.specs.Number as WireNumber
pub use Rattle.simplex_wire.specs.ResolverMessage
pub use Rattle.simplex_wire.specs.Signatures
pub use Rattle.simplex_wire.specs.Texts as WireTexts
-- Of schemes, electors, evidence and reports.
pub use Rattle.simplex_types.specs.Evidence as EvidenceOf
pub use Rattle.simplex_types.specs.Genesis
pub use Rattle.simplex_types.specs.Keyed
pub use Rattle.simplex_types.specs.KeyedLaws
pub use Rattle.simplex_types.specs.Reporting
pub use Rattle.simplex_types.specs.RoundRobin
-- Of sources and sinks.
pub use Rattle.simplex_io.specs.Errors
pub use Rattle.simplex_io.specs.Io
pub use Rattle.simplex_io.specs.Memory as IoMemory
-- Of journals.
pub use Rattle.simplex_journal.specs.Contents
pub use Rattle.simplex_journal.specs.Faults
pub use Rattle.simplex_journal.specs.Journal
pub use Rattle.simplex_journal.specs.Memory as JournalMemory
pub use Rattle.simplex_journal.specs.Order
-- Of disks, and of a journal in segment files.
pub use Rattle.simplex_disk.specs.Answers as DiskAnswers
pub use Rattle.simplex_disk.specs.Calls as DiskCalls
pub use Rattle.simplex_disk.specs.Contents as DiskContents
pub use Rattle.simplex_disk.specs.Files
pub use Rattle.simplex_disk.specs.Goes
pub use Rattle.simplex_disk.specs.Index
pub use Rattle.simplex_disk.specs.Left as DiskLeft
pub use Rattle.simplex_disk.specs.Memory as DiskMemory
pub use Rattle.simplex_disk.specs.Moments
pub use Rattle.simplex_disk.specs.Opening as DiskOpening
pub use Rattle.simplex_disk.specs.Orders
pub use Rattle.simplex_disk.specs.Pruning
-- Of mailboxes.
pub use Rattle.simplex_mailbox.specs.Mail
pub use Rattle.simplex_mailbox.specs.Pending
pub use Rattle.simplex_mailbox.specs.Post
pub use Rattle.simplex_mailbox.specs.Waiting
-- Of mailboxes that threads share.
pub use Rattle.simplex_shared.specs.Calls as MailCalls
pub use Rattle.simplex_shared.specs.History
pub use Rattle.simplex_shared.specs.Lock as SharedLock
pub use Rattle.simplex_shared.specs.Passes
-- Of the votes of one view.
pub use Rattle.simplex_round.specs.Acceptance
pub use Rattle.simplex_round.specs.Assembly as RoundAssembly
pub use Rattle.simplex_round.specs.Calls as RoundCalls
pub use Rattle.simplex_round.specs.Forwarding
pub use Rattle.simplex_round.specs.Known as RoundKnown
pub use Rattle.simplex_round.specs.Laws as RoundLaws
pub use Rattle.simplex_round.specs.Samples as RoundSamples
pub use Rattle.simplex_round.specs.Stands as RoundStands
pub use Rattle.simplex_round.specs.Verifier
pub use Rattle.simplex_round.specs.Votes as RoundVotes
-- Of a reporter that records.
pub use Rattle.simplex_recording.specs.Recording
pub use Rattle.simplex_recording.specs.Stands as RecordingStands
-- Of twins.
pub use Rattle.simplex_twins.specs.Every
pub use Rattle.simplex_twins.specs.Faults as TwinsFaults
pub use Rattle.simplex_twins.specs.LeaderLaws
pub use Rattle.simplex_twins.specs.Leaders
pub use Rattle.simplex_twins.specs.Partitions
pub use Rattle.simplex_twins.specs.Routes
pub use Rattle.simplex_twins.specs.Samples as TwinsSamples
pub use Rattle.simplex_twins.specs.Script
-- Of what faulty members send.
pub use Rattle.model_faults.specs.Conflicter
pub use Rattle.model_faults.specs.Equivocator
pub use Rattle.model_faults.specs.Heard
pub use Rattle.model_faults.specs.Impersonator
pub use Rattle.model_faults.specs.Nuller
pub use Rattle.model_faults.specs.NullifyOnly
pub use Rattle.model_faults.specs.Outdated
pub use Rattle.model_faults.specs.Reconfigurer
pub use Rattle.model_faults.specs.Words as FaultyWords
pub use Rattle.model_faults.specs.Wrapped
-- Of what a member knows, and its rules.
pub use Rattle.model_rules.specs.Ancestry
pub use Rattle.model_rules.specs.Best
pub use Rattle.model_rules.specs.Calls as RulesCalls
pub use Rattle.model_rules.specs.Deadline
pub use Rattle.model_rules.specs.Known as RulesKnown
pub use Rattle.model_rules.specs.Laws as RulesLaws
pub use Rattle.model_rules.specs.Lists as RulesLists
pub use Rattle.model_rules.specs.Repair
pub use Rattle.model_rules.specs.Requests
pub use Rattle.model_rules.specs.Slot
pub use Rattle.model_rules.specs.Views as RulesViews
pub use Rattle.model_rules.specs.Votes as RulesVotes
-- Of what actors hand each other.
pub use Rattle.simplex_messages.specs.Handing as MessagesHanding
pub use Rattle.simplex_messages.specs.Policies
pub use Rattle.simplex_messages.specs.Step
pub use Rattle.simplex_messages.specs.Turns as MessagesTurns
-- Of fetchers and resolvers.
pub use Rattle.model_resolver.specs.Asks
pub use Rattle.model_resolver.specs.Fetcher
pub use Rattle.model_resolver.specs.Laws as ResolverRulesLaws
pub use Rattle.model_resolver.specs.Resolver
pub use Rattle.model_resolver.specs.Retirement
pub use Rattle.model_resolver.specs.Views as ResolverViews
-- Of entries.
pub use Rattle.simplex_transcript.specs.Names as TranscriptNames
pub use Rattle.simplex_transcript.specs.Usual
-- Of the steps of actors and engines.
pub use Rattle.model_steps.specs.Batcher
pub use Rattle.model_steps.specs.Desk
pub use Rattle.model_steps.specs.Engine
pub use Rattle.model_steps.specs.Performed
pub use Rattle.model_steps.specs.ResolverSteps
pub use Rattle.model_steps.specs.Resolving
pub use Rattle.model_steps.specs.Voter
pub use Rattle.model_steps.specs.VoterLife
-- Of runs.
pub use Rattle.model_run.specs.Blocked
pub use Rattle.model_run.specs.Entries
pub use Rattle.model_run.specs.Forged
pub use Rattle.model_run.specs.Groups
pub use Rattle.model_run.specs.Kinds
pub use Rattle.model_run.specs.Life
pub use Rattle.model_run.specs.Members
pub use Rattle.model_run.specs.Requests as RunRequests
pub use Rattle.model_run.specs.Run
pub use Rattle.model_run.specs.Samples as RunSamples
pub use Rattle.model_run.specs.SentVotes
pub use Rattle.model_run.specs.Setting
pub use Rattle.model_run.specs.Setups
-- Of a voter's state.
pub use Rattle.simplex_state.specs.Bound as StateBound
pub use Rattle.simplex_state.specs.Floor as StateFloor
pub use Rattle.simplex_state.specs.Ranges as StateRanges
pub use Rattle.simplex_state.specs.Stands as StateStands
-- Of what is held for others.
pub use Rattle.simplex_repair.specs.Laws as RepairLaws
pub use Rattle.simplex_repair.specs.Stands as RepairStands
-- Of fetchers, laws.
pub use Rattle.simplex_fetch.specs.Index as FetchIndex
pub use Rattle.simplex_fetch.specs.Laws as FetchLaws
-- Of the resolver.
pub use Rattle.simplex_resolver.specs.Bound as ResolverBound
pub use Rattle.simplex_resolver.specs.Laws as ResolverLaws
pub use Rattle.simplex_resolver.specs.Stands as ResolverStands
-- Of the batcher.
pub use Rattle.simplex_batcher.specs.Bound as BatcherBound
pub use Rattle.simplex_batcher.specs.Stands as BatcherStands
-- Of the voter.
pub use Rattle.simplex_voter.specs.Actor
pub use Rattle.simplex_voter.specs.Turned
pub use Rattle.simplex_voter.specs.Unanswered as VoterUnanswered
pub use Rattle.simplex_voter.specs.Stands as PlannerStands
-- Of an engine.
pub use Rattle.simplex_engine.specs.Config as EngineConfig
pub use Rattle.simplex_engine.specs.Holding
pub use Rattle.simplex_engine.specs.Laws as EngineLaws
pub use Rattle.simplex_engine.specs.Parts as EngineParts
pub use Rattle.simplex_engine.specs.Polled
pub use Rattle.simplex_engine.specs.Stands as EngineStands
-- Of reporters.
pub use Rattle.simplex_report.specs.Attributable
pub use Rattle.simplex_report.specs.Combined
pub use Rattle.simplex_report.specs.Handing
pub use Rattle.simplex_report.specs.Limit
pub use Rattle.simplex_report.specs.Samples as ReportSamples
-- Of agreement.
pub use Rattle.law_agreement.specs.Artifacts
pub use Rattle.law_agreement.specs.Conflict
pub use Rattle.law_agreement.specs.Invariant
pub use Rattle.law_agreement.specs.LifeExamples
pub use Rattle.law_agreement.specs.Member
pub use Rattle.law_agreement.specs.Quorums
pub use Rattle.law_agreement.specs.Terms as AgreementTerms
pub use Rattle.law_agreement.specs.World
pub use Rattle.law_agreement.specs.WorldExamples
-- Of one member, laws.
pub use Rattle.law_cluster.specs.Agree as ClustersAgree
pub use Rattle.law_cluster.specs.Cluster
pub use Rattle.law_cluster.specs.Evidence as ClusterEvidence
pub use Rattle.law_cluster.specs.Lives as ClusterLives
pub use Rattle.law_cluster.specs.Nodes as ClusterNodes
pub use Rattle.law_cluster.specs.Order as ClusterOrder
pub use Rattle.law_cluster.specs.Reports as ClusterReports
pub use Rattle.law_cluster.specs.Samples as ClusterSamples
pub use Rattle.law_cluster.specs.Signatures as ClusterSignatures
pub use Rattle.law_cluster.specs.TornSamples as TornClusterSamples
pub use Rattle.law_member.specs.Batcher as BatcherTold
pub use Rattle.law_member.specs.BatcherVotes
pub use Rattle.law_member.specs.Blocks as BlocksFounded
pub use Rattle.law_member.specs.Certificates
pub use Rattle.law_member.specs.Evidence
pub use Rattle.law_member.specs.EvidenceSamples
pub use Rattle.law_member.specs.Growth
pub use Rattle.law_member.specs.Journal as JournalCalls
pub use Rattle.law_member.specs.Learned
pub use Rattle.law_member.specs.Life as Conduct
pub use Rattle.law_member.specs.Outgoing
pub use Rattle.law_member.specs.Quorums as MemberQuorums
pub use Rattle.law_member.specs.Reports
pub use Rattle.law_member.specs.Resolver as ResolverAsks
pub use Rattle.law_member.specs.RuleVotes
pub use Rattle.law_member.specs.Sections
pub use Rattle.law_member.specs.StepSamples
pub use Rattle.law_member.specs.Syncs
pub use Rattle.law_member.specs.Tidings
pub use Rattle.law_member.specs.VoterVotes
pub use Rattle.law_member.specs.Wire
-- Of a safe run, and all laws of runs.
pub use Rattle.law_run.specs.Answered
pub use Rattle.law_run.specs.Asked as RunAsked
pub use Rattle.law_run.specs.Backed
pub use Rattle.law_run.specs.BackingSamples
pub use Rattle.law_run.specs.Blame
pub use Rattle.law_run.specs.Chains
pub use Rattle.law_run.specs.Complete
pub use Rattle.law_run.specs.Conditions
pub use Rattle.law_run.specs.EventForging as Forging
pub use Rattle.law_run.specs.Evidence as RunEvidence
pub use Rattle.law_run.specs.Faulty
pub use Rattle.law_run.specs.Fitting
pub use Rattle.law_run.specs.ForgingSamples
pub use Rattle.law_run.specs.Founded
pub use Rattle.law_run.specs.Genuine
pub use Rattle.law_run.specs.Held
pub use Rattle.law_run.specs.Histories
pub use Rattle.law_run.specs.InTime
pub use Rattle.law_run.specs.Keeping
pub use Rattle.law_run.specs.Late as RunLate
pub use Rattle.law_run.specs.LimitSamples
pub use Rattle.law_run.specs.Limits
pub use Rattle.law_run.specs.MostlyHonest
pub use Rattle.law_run.specs.Naming
pub use Rattle.law_run.specs.OneChain
pub use Rattle.law_run.specs.Passing
pub use Rattle.law_run.specs.Quiet
pub use Rattle.law_run.specs.Refusing
pub use Rattle.law_run.specs.Rooted
pub use Rattle.law_run.specs.Ruled
pub use Rattle.law_run.specs.Safe
pub use Rattle.law_run.specs.Sayings
pub use Rattle.law_run.specs.Voting
pub use Rattle.law_run.specs.WellSent
pub use Rattle.law_run.specs.Words as RunWords
-- Of members that break the rules, certifiers and relays.
pub use Rattle.simplex_mocks.specs.Certifier
pub use Rattle.simplex_mocks.specs.Conflicting
pub use Rattle.simplex_mocks.specs.Drawing as MocksDrawing
pub use Rattle.simplex_mocks.specs.Equivocating
pub use Rattle.simplex_mocks.specs.Hearing
pub use Rattle.simplex_mocks.specs.Queue as MocksQueue
pub use Rattle.simplex_mocks.specs.Relay
pub use Rattle.simplex_mocks.specs.Remembering
pub use Rattle.simplex_mocks.specs.WrappedLaws
-- Of an application.
pub use Rattle.simplex_application.specs.Application
pub use Rattle.simplex_application.specs.Handling
-- Of what is kept of entries.
pub use Rattle.simplex_records.specs.Stands as RecordsStands
-- Of a network.
pub use Rattle.simplex_network.specs.Answer
pub use Rattle.simplex_network.specs.Lending
pub use Rattle.simplex_network.specs.Stands
-- Of whole runs, one by one and by several workers.
pub use Rattle.simplex_run.specs.WholeRuns
pub use Rattle.simplex_par.specs.Steps as ParSteps
-- Of inputs as JSON.
pub use Rattle.simplex_form.specs.Events as FormEvents
pub use Rattle.simplex_form.specs.Form as FormForm
pub use Rattle.simplex_form.specs.Input
pub use Rattle.simplex_form.specs.Setup as FormSetup
pub use Rattle.simplex_names.specs.Names as FormNames
-- Of lines.
pub use Rattle.simplex_text.specs.Lines
pub use Rattle.simplex_text.specs.Refusals
-- Of events that a number makes.
pub use Rattle.simplex_generator.specs.Drawing as GeneratorDrawing
pub use Rattle.simplex_generator.specs.Draws
pub use Rattle.simplex_generator.specs.Generated
pub use Rattle.simplex_generator.specs.Samples as GeneratorSamples
pub use Rattle.simplex_generator.specs.Setup
pub use Rattle.simplex_generator.specs.Summary
pub use Rattle.simplex_generator.specs.Unanswered as GeneratorUnanswered
pub use Rattle.simplex_generator.specs.Undelivered
-- Of turns on threads.
pub use Rattle.simplex_turns.specs.Threads
pub use Rattle.simplex_turns.specs.Voting as TurnsVoting
-- Of an engine on threads.
pub use Rattle.simplex_threads.specs.Laws as ThreadLaws
pub use Rattle.simplex_threads.specs.Ran
pub use Rattle.simplex_threads.specs.Ready
-- Of the program.
pub use Rattle.simplex_program.specs.Cause
pub use Rattle.simplex_program.specs.Exit
pub use Rattle.simplex_program.specs.Whole
pub use Rattle.simplex_program.specs.Words
-- Of the finalized log of a list of reports, and of the logs of a run.
pub use Rattle.model_log.specs.Ends
pub use Rattle.model_log.specs.Fronts
pub use Rattle.model_log.specs.Links
pub use Rattle.model_log.specs.Log
pub use Rattle.model_log.specs.Observing
pub use Rattle.model_log.specs.Samples as LogSamples
pub use Rattle.model_log.specs.Walks
pub use Rattle.simplex_log.specs.Stands as LogStands
pub use Rattle.simplex_logs.specs.NodeLogs
pub use Rattle.simplex_logs.specs.Says as LogsSays
pub use Rattle.simplex_logs.specs.Taken as LogsTaken
pub use Rattle.law_log.specs.Founded as LogFounded
pub use Rattle.law_log.specs.Lines as LogLines
pub use Rattle.law_log.specs.Logs
pub use Rattle.law_log.specs.Reports as LogReports
pub use Rattle.law_log.specs.Samples as LogsSamples
pub use Rattle.law_log.specs.Transcripts
-- Of accounts over the log.
pub use Rattle.model_ledger.specs.Balances
pub use Rattle.model_ledger.specs.Blocks
pub use Rattle.model_ledger.specs.Doubles as LedgerDoubles
pub use Rattle.model_ledger.specs.Failing as LedgerFailing
pub use Rattle.model_ledger.specs.Ledger
pub use Rattle.simplex_ledger.specs.Book
pub use Rattle.simplex_ledger.specs.Fits as BlockFits
pub use Rattle.simplex_ledger.specs.Index as BlockIndex
pub use Rattle.simplex_ledgers.specs.End as LedgerEnd
pub use Rattle.simplex_ledgers.specs.Form as LedgerForm
pub use Rattle.simplex_ledgers.specs.Says as LedgerSays
pub use Rattle.simplex_ledgers.specs.Sound as SoundLedger
pub use Rattle.law_ledger.specs.Answers as LedgerAnswers
pub use Rattle.law_ledger.specs.Faults as LedgerFaults
pub use Rattle.law_ledger.specs.Lines as LedgerLines
pub use Rattle.law_ledger.specs.Samples as LedgerSamples
pub use Rattle.law_ledger.specs.Whole as WholeLedger
-- Of one network per epoch.
pub use Rattle.model_epochs.specs.Chain
pub use Rattle.model_epochs.specs.Epochs
pub use Rattle.model_epochs.specs.Lines as EpochLines
pub use Rattle.law_epochs.specs.Alike
pub use Rattle.law_epochs.specs.Whole as WholeEpochs
pub use Rattle.simplex_epochs.specs.Form as ChainForm
pub use Rattle.simplex_epochs.specs.Reasons as ChainReasons
pub use Rattle.simplex_epochs.specs.Runs as EpochRuns
pub use Rattle.simplex_epochs.specs.Says as ChainSays
-- Of records of runs, and their audit.
pub use Rattle.model_audit.specs.Alike as AuditAlike
pub use Rattle.model_audit.specs.Answers as AuditAnswers
pub use Rattle.model_audit.specs.Audit
pub use Rattle.model_audit.specs.Conditions as AuditConditions
pub use Rattle.model_audit.specs.Conflicts as AuditConflicts
pub use Rattle.model_audit.specs.Fitting as AuditFitting
pub use Rattle.model_audit.specs.Holding as AuditHolding
pub use Rattle.model_audit.specs.Journal as AuditJournal
pub use Rattle.model_audit.specs.JournalCalls as AuditJournalCalls
pub use Rattle.model_audit.specs.Order as AuditOrder
pub use Rattle.model_audit.specs.Reading as AuditReading
pub use Rattle.model_audit.specs.Rebuilt as AuditRebuilt
pub use Rattle.model_audit.specs.Record as AuditRecord
pub use Rattle.model_audit.specs.Running as AuditRunning
pub use Rattle.model_audit.specs.Samples as AuditSamples
pub use Rattle.model_audit.specs.Taking as AuditTaking
pub use Rattle.model_audit.specs.VotesDue as AuditVotesDue
pub use Rattle.law_requests.specs.Named as RequestsNamed
pub use Rattle.law_requests.specs.Open as RequestsOpen
pub use Rattle.law_requests.specs.Since as RequestsSince
pub use Rattle.law_requests.specs.Steps as RequestsSteps
pub use Rattle.law_requests.specs.Turns as RequestsTurns
pub use Rattle.law_audit.specs.Recording as AuditRecording
pub use Rattle.law_audit.specs.Taken as AuditTaken
-- Of a run told line by line.
pub use Rattle.simplex_trace.specs.Trace
pub use Rattle.simplex_lab.specs.About as LabAbout
pub use Rattle.simplex_lab.specs.Reasons as LabReasons
pub use Rattle.simplex_lab.specs.Says as LabSays
pub use Rattle.simplex_lab.specs.Words as LabWords
-- Of what all programs share.
pub use Rattle.simplex_front.specs.Answer as FrontAnswer
pub use Rattle.simplex_front.specs.Cause as FrontCause
pub use Rattle.simplex_front.specs.Exit as FrontExit
pub use Rattle.simplex_front.specs.Words as FrontWords
