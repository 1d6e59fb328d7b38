use Rattle.std.proofs.Common.{arith}
use Rattle.simplex_members.proofs.Good.{good-epoch}
use Rattle.simplex_members.proofs.Standing.{no_engine, signed, silent-made, conflicter-made, equivocator-made, outdated-made, impersonator-made, nuller-made, nullify_only-made, reconfigurer-made}
use Rattle.simplex_members.proofs.faulty_member.FaultyMember.new.Goals as goal

pub invariant_of-config : goal.invariant_of-config
invariant_of-config c = let fits = good-epoch c.args.setup.now c.requires.good in omega (arith, fits)

pub unreachable-requires : goal.unreachable-requires
unreachable-requires c = no_engine c.args.setup.now c.args.member c.kind_of.result c.requires.below c.requires.without_engine c.kind_of.ensures c.in-Honest.is

pub returns-in-Silent : goal.returns-in-Silent
returns-in-Silent c = silent-made c.args.setup.now c.args.member c.kind_of.result c.kind_of.ensures c.in-Silent.is

pub returns-in-Conflicter : goal.returns-in-Conflicter
returns-in-Conflicter c =
    let scheme = c.in_ok-scheme.ensures in
    conflicter-made c.args.setup.now c.args.member c.kind_of.result _ _ c.new.result c.kind_of.ensures c.in-Conflicter.is
    (signed c.args.setup.now c.args.member c.in_ok-scheme.scheme scheme.0 scheme.2) c.random_of-random.ensures c.new.ensures

pub returns-in_ok-elector_of-in-Equivocator : goal.returns-in_ok-elector_of-in-Equivocator
returns-in_ok-elector_of-in-Equivocator c =
    let scheme = c.in_ok-scheme.ensures in
    equivocator-made c.args.setup.now c.args.member c.kind_of.result c.in_ok-scheme.scheme c.in_ok-elector_of-in-Equivocator.field-0 _ c.new-in-Equivocator.result c.kind_of.ensures
    c.in-Equivocator.is (signed c.args.setup.now c.args.member c.in_ok-scheme.scheme scheme.0 scheme.2) c.in_ok-elector_of-in-Equivocator.ensures.leaders
    scheme.2 scheme.1 c.random_of-random.ensures c.new-in-Equivocator.ensures

pub returns-in-Outdated : goal.returns-in-Outdated
returns-in-Outdated c =
    let scheme = c.in_ok-scheme.ensures in
    outdated-made c.args.setup.now c.args.member c.in-Outdated.delta c.kind_of.result _ c.new-in-Outdated.result c.kind_of.ensures c.in-Outdated.is
    (signed c.args.setup.now c.args.member c.in_ok-scheme.scheme scheme.0 scheme.2) c.new-in-Outdated.ensures

pub returns-in-Impersonator : goal.returns-in-Impersonator
returns-in-Impersonator c =
    let scheme = c.in_ok-scheme.ensures in
    impersonator-made c.args.setup.now c.args.member c.kind_of.result c.in_ok-scheme.scheme c.new-in-Impersonator.result c.kind_of.ensures c.in-Impersonator.is
    (signed c.args.setup.now c.args.member c.in_ok-scheme.scheme scheme.0 scheme.2) c.new-in-Impersonator.ensures

pub returns-in-Nuller : goal.returns-in-Nuller
returns-in-Nuller c =
    let scheme = c.in_ok-scheme.ensures in
    nuller-made c.args.setup.now c.args.member c.kind_of.result c.in_ok-scheme.scheme c.new-in-Nuller.result c.kind_of.ensures c.in-Nuller.is
    (signed c.args.setup.now c.args.member c.in_ok-scheme.scheme scheme.0 scheme.2) c.new-in-Nuller.ensures

pub returns-in-NullifyOnly : goal.returns-in-NullifyOnly
returns-in-NullifyOnly c =
    let scheme = c.in_ok-scheme.ensures in
    nullify_only-made c.args.setup.now c.args.member c.kind_of.result c.in_ok-scheme.scheme c.new-in-NullifyOnly.result c.kind_of.ensures c.in-NullifyOnly.is
    (signed c.args.setup.now c.args.member c.in_ok-scheme.scheme scheme.0 scheme.2) c.new-in-NullifyOnly.ensures

pub returns-in-Reconfigurer : goal.returns-in-Reconfigurer
returns-in-Reconfigurer c =
    let scheme = c.in_ok-scheme.ensures in
    reconfigurer-made c.args.setup.now c.args.member c.kind_of.result c.in_ok-scheme.scheme c.new-in-Reconfigurer.result c.kind_of.ensures c.in-Reconfigurer.is
    (signed c.args.setup.now c.args.member c.in_ok-scheme.scheme scheme.0 scheme.2) c.new-in-Reconfigurer.ensures
