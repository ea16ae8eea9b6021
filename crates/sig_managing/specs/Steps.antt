-- One request on the way: what was asked, and what was put.
use Rattle.std.specs.Prelude.{◌≡◌, ◌⊎◌, ℕ, List, [], Option, Some, None, IsOk, Result, Ok, Err, ⊤}
use Rattle.std.specs.Option.{option_to_list}
use Rattle.std.specs.Io.KnownBytes.{Appends}
use Rattle.sig_json.specs.Answers.{result_map}
use Rattle.sig_outside.specs.Causes.{AppendsPrefix}
use Rattle.sig_command.specs.Moment.{OutputCalm, OutputState, OutputStopped}
use Rattle.sig_links.specs.Told.{LinkPlan, Sent}
use Rattle.sig_declared.specs.declared.provider.Provider.{Provider}
use Rattle.sig_manager.specs.Exchange.{Managed, next_of, step_of}
use Rattle.sig_manager.specs.declared.step.Step.{Step}
use Rattle.sig_managing.specs.Drives.{Prints}
use Rattle.sig_managing.specs.Exchanges.{Exchange, HearsAll, IsTaken, SendsAll, done_in}
use Rattle.sig_managing.specs.Lines.{change_of, line_of, lines_of}
use Rattle.sig_managing.specs.declared.counts.Change.{Change}
use Rattle.sig_managing.specs.declared.fault.DriveFault.{DriveFault}
use Rattle.sig_managing.specs.declared.fault.DriveFault.TheVariants.{Dial, Link, Peer, Output, Memory}

-- what a step changes, and its line; the list of streams is no step
abbrev pub change_by : Option Step → Option Change
change_by None = None
change_by (Some s) = change_of s

abbrev pub line_by : Option Step → List ℕ
line_by None = []
line_by (Some s) = line_of s

-- a line was put, or the output stopped at it
abbrev pub PutsLine : Result ⊤ DriveFault → List ℕ → OutputState → OutputState → Type 0
PutsLine (Ok x) text before after = Appends before.written after.written text × OutputCalm before after
PutsLine (Err Dial) text before after = ⊥
PutsLine (Err Link) text before after = ⊥
PutsLine (Err (Peer place)) text before after = ⊥
PutsLine (Err Output) text before after = AppendsPrefix before.written after.written text × OutputStopped before after
PutsLine (Err Memory) text before after = ⊥

-- what became of a request by its answer: it was taken, and the output may have stopped at its line; or it wasn't
abbrev pub EndsStep : Result Managed DriveFault → Managed → Option Step → Managed → Result ⊤ DriveFault → Type 0
EndsStep (Ok later) m done after end = (done ≡ step_of m) × (after ≡ later) × ((end ≡ Err Output) ⊎ IsOk end)
EndsStep (Err fault) m done after end = (done ≡ None) × (after ≡ m) × (end ≡ Err fault)

-- the request that is asked next was asked, if memory sufficed for it
abbrev pub IsNextOrNone : Managed → Option Exchange → Managed → Result ⊤ DriveFault → Type 0
IsNextOrNone m None after end = (after ≡ m) × (end ≡ Err Memory)
IsNextOrNone m (Some e) after end =
    (next_of m ≡ Some e.request) × IsTaken m e.answer e.taken × EndsStep e.taken m e.done after end

pub record Asks {T : Type 0} (provider : Provider) (m last : Managed) (ahead ahead' : Option (List LinkPlan)) (sent sent' : Option (List Sent)) (before after : OutputState) (end : Result T DriveFault) : Type 0 where
  pub made : Option Exchange
  pub is : IsNextOrNone m made last (result_map (λ x. tt) end)
  pub sends : SendsAll provider (option_to_list made) sent sent'
  pub hears : HearsAll (option_to_list made) ahead ahead'
  pub prints : Prints end (lines_of (done_in (option_to_list made))) before after
