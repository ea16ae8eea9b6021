-- What bringing streams to what is declared does to the side and to the output, and what it answers.
use Rattle.std.specs.Prelude.{◌≡◌, ℕ, List, Option, IfOk, Result, Ok, Err}
use Rattle.std.specs.Io.KnownBytes.{Appends}
use Rattle.sig_json.specs.Answers.{result_map}
use Rattle.sig_outside.specs.Causes.{AppendsPrefix, Raised}
use Rattle.sig_command.specs.Moment.{OutputCalm, OutputState, OutputStopped}
use Rattle.sig_links.specs.Told.{LinkPlan, Sent}
use Rattle.sig_declared.specs.declared.provider.Provider.{Provider}
use Rattle.sig_manager.specs.Exchange.{Managed}
use Rattle.sig_managing.specs.Exchanges.{Exchange, Follows, HearsAll, SendsAll, done_in}
use Rattle.sig_managing.specs.Lines.{counted, lines_of}
use Rattle.sig_managing.specs.declared.counts.Counts.{Counts}
use Rattle.sig_managing.specs.declared.fault.DriveFault.{DriveFault}
use Rattle.sig_managing.specs.declared.fault.DriveFault.TheVariants.{Dial, Link, Peer, Output, Memory}

-- the output took this text, or stopped after a prefix of it where that ended it
abbrev pub Prints : {T : Type 0} → Result T DriveFault → List ℕ → OutputState → OutputState → Type 0
Prints (Ok x) text before after = Appends before.written after.written text × OutputCalm before after
Prints (Err Dial) text before after = Appends before.written after.written text × OutputCalm before after
Prints (Err Link) text before after = Appends before.written after.written text × OutputCalm before after
Prints (Err (Peer place)) text before after = Appends before.written after.written text × OutputCalm before after
Prints (Err Output) text before after = AppendsPrefix before.written after.written text × OutputStopped before after
Prints (Err Memory) text before after = Appends before.written after.written text × OutputCalm before after

-- from this manager on to the last one these requests were asked over links of their own, what they did was printed, and at `Ok`
-- is counted
pub record Drives (provider : Provider) (m last : Managed) (ahead ahead' : Option (List LinkPlan)) (sent sent' : Option (List Sent)) (before after : OutputState) (end : Result Counts DriveFault) : Type 0 where
  pub exchanges : List Exchange
  pub follows : Follows m exchanges last (result_map (λ counts. tt) end)
  pub sends : SendsAll provider exchanges sent sent'
  pub hears : HearsAll exchanges ahead ahead'
  pub prints : Prints end (lines_of (done_in exchanges)) before after
  pub counts : IfOk end (λ counts. counts ≡ counted (done_in exchanges))

-- the side's count: it is raised by one where a dial or a link failed, and any other end leaves it
abbrev pub CountsFaults : {T : Type 0} → ℕ → ℕ → Result T DriveFault → Type 0
CountsFaults before now (Ok x) = now ≡ before
CountsFaults before now (Err Dial) = Raised before now
CountsFaults before now (Err Link) = Raised before now
CountsFaults before now (Err (Peer place)) = now ≡ before
CountsFaults before now (Err Output) = now ≡ before
CountsFaults before now (Err Memory) = now ≡ before
