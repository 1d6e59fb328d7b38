-- How the fault of a read is told of the whole input.
use Rattle.simplex_io.specs.declared.source.SourceError.{SourceError}
use Rattle.simplex_io.specs.declared.source.SourceError.TheVariants.{Memory as NoMemory, Failed as ReadFailed}
use Rattle.simplex_io.specs.declared.read.InputEnd.{InputEnd}
use Rattle.simplex_io.specs.declared.read.InputEnd.TheVariants.{Memory, ReadFault}

-- What a read that failed makes of the input.
abbrev pub input_end_of : SourceError → InputEnd
input_end_of NoMemory = Memory
input_end_of ReadFailed = ReadFault
