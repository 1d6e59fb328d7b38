-- What is known is only added to.
use Rattle.std.specs.Prelude.{List, ◌++◌}
use Rattle.model_rules.specs.Known.{Made, Fact}
use Rattle.model_rules.specs.Calls.{Call, facts_of}

-- what is known after one more call
abbrev pub after : Made → List Fact → Call → List Fact
after made known call = facts_of made known call ++ known
