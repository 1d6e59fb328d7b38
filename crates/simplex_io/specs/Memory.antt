-- What a source and a sink in memory are to their callers.
use Rattle.std.specs.Prelude.{◌==◌, if◌then◌else◌, Bool, ℕ, List}
use Rattle.std.specs.List.{list_any}
use Rattle.simplex_io.specs.Io.{raised}

-- The calls of a source or a sink: the numbers of those that fail, counted from 1, how many were made, and
-- how many of these failed. Both counts stop at the greatest u64.
pub record CallCount : Type 0 where
  pub failing : List ℕ
  pub made : ℕ
  pub faults : ℕ

-- A source: the bytes that are still to come, and its reads.
pub record SourceContent : Type 0 where
  pub left : List ℕ
  pub reads : CallCount

-- A sink: the bytes that were written, and its writes.
pub record SinkContent : Type 0 where
  pub written : List ℕ
  pub writes : CallCount

-- No call was made yet.
abbrev pub no_calls : List ℕ → CallCount
no_calls failing = record { failing = failing; made = 0; faults = 0 }

-- The next call fails if its number is listed.
abbrev pub next_fails : CallCount → Bool
next_fails calls = list_any (λ number. number == raised calls.made) calls.failing

-- One more call was made.
abbrev pub after_call : CallCount → CallCount
after_call calls = record {
  failing = calls.failing;
  made = raised calls.made;
  faults = if next_fails calls then raised calls.faults else calls.faults;
}
