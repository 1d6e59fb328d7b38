-- What a script comes to, part by part.
use Rattle.std.proofs.Common.{◌≡◌, ℕ, Bool, List, Ok, Err, inl, inr, refl, sym}
use Rattle.std.specs.Str.{IsUtf8}
use Rattle.simplex_transcript.specs.declared.refusal.Refusal.{Refusal}
use Rattle.model_run.specs.Setting.{at_epoch_genesis}
use Rattle.model_run.specs.Run.{Run}
use Rattle.simplex_run.specs.declared.run.Transcript.{Transcript}
use Rattle.simplex_run.specs.WholeRuns.{WholeRunFrom}
use Rattle.simplex_script.specs.Scripts.{script_of}
use Rattle.simplex_script.specs.declared.fault.BadLine.{BadLine}
use Rattle.simplex_script.specs.declared.script.Script.{Script}
use Rattle.simplex_scripts.specs.Playing.{compiled}
use Rattle.simplex_scripts.specs.declared.compiling.Compiled.{Compiled}
use Rattle.simplex_lab.specs.Says.{ComesTo, IsBadScript, IsScriptRefused, IsScripted, refused_in, scripted_text}

pub comes_to : (bytes : List ℕ) (script : Script) (made : Compiled) → script_of bytes ≡ Ok script → Ok made ≡ compiled script → ComesTo bytes script made
comes_to bytes script made read comes = record { read = read; comes = sym comes }

-- the whole run of a script is told
pub scripted : (shows : Bool) (bytes : List ℕ) (script : Script) (made : Compiled) (done : Transcript) (text : List ℕ)
    → ComesTo bytes script made → WholeRunFrom (at_epoch_genesis script.setup) made.events done
    → text ≡ scripted_text shows bytes script made done.entries → IsScripted shows bytes done text
scripted shows bytes script made done text comes whole told = record { script = script; made = made; comes = comes; whole = whole; told = told }

-- its run is refused
pub script_refused : (bytes : List ℕ) (script : Script) (made : Compiled) (refusal : Refusal) (text : List ℕ)
    → ComesTo bytes script made → Run script.setup made.events ≡ Err refusal → text ≡ refused_in made.lines refusal
    → IsScriptRefused bytes refusal text
script_refused bytes script made refusal text comes refused told =
    record { script = script; made = made; comes = comes; refused = refused; told = told }

-- a line names what is not there
pub not_there : (bytes : List ℕ) (script : Script) (bad : BadLine) → script_of bytes ≡ Ok script → Err bad ≡ compiled script
    → IsBadScript bytes bad.line
not_there bytes script bad read is = inl (bad, inr (script, read, sym is), refl)

-- a line cannot be read
pub not_read : (bytes : List ℕ) (bad : BadLine) → script_of bytes ≡ Err bad → IsBadScript bytes bad.line
not_read bytes bad unread = inl (bad, inl unread, refl)

-- there is no text
pub no_text : (bytes : List ℕ) → ¬ IsUtf8 bytes → IsBadScript bytes 0
no_text bytes not = inr (not, refl)
