-- What holds of the node that is handed back and of the report.
use Rattle.std.proofs.Common.{◌≡◌, ◌∙◌, ℕ, Bool, List, Option, length, sym, subst}
use Rattle.sig_links.specs.Views.{DoorView}
use Rattle.sig_logs.specs.declared.difference.Differ.{Differ}
use Rattle.sig_serving.specs.Stops.{is_shut}
use Rattle.sig_serving.specs.declared.stop.Stop.{Stop}
use Rattle.sig_watch.specs.Attending.{Attends}
use Rattle.sig_watch.specs.Sights.{Sight}
use Rattle.sig_watch.specs.Ends.{Compares, EndsBy, HandsBack, IfReport, IsReported, WhyEnded}
use Rattle.sig_watch.specs.declared.report.Report.{Report}
use Rattle.sig_watch.specs.declared.report.WatchEnd.{WatchEnd}
use Rattle.sig_watch.specs.declared.report.WatchEnd.TheVariants.{Done, DoorFault, Broken, Halted, Disagree, Memory}

module _ {N : Type 0} where
  -- it follows
  pub follows : (P Q : N → Report → Type 0) (result : WatchEnd N) → ((now : N) (report : Report) → P now report → Q now report) → IfReport result P → IfReport result Q
  follows P Q (Done now report) f p = f now report p
  follows P Q (DoorFault now report) f p = f now report p
  follows P Q (Broken now report) f p = f now report p
  follows P Q (Halted now report) f p = f now report p
  follows P Q (Disagree now differ report) f p = f now report p
  follows P Q (Memory now) f p = tt

  -- this node was handed back, and the report tells of so many links
  abbrev pub Gives : N → ℕ → Bool → N → Report → Type 0
  Gives node links shut now report = (now ≡ node) × (report.links ≡ links) × (report.shut ≡ shut)

  -- what holds of the node
  pub of_node : (P : N → Type 0) (node : N) (links : ℕ) (shut : Bool) (result : WatchEnd N) → IfReport result (Gives node links shut) → P node → IfReport result (λ now report. P now)
  of_node P node links shut result gives h = follows (Gives node links shut) (λ now report. P now) result (λ now report same. subst P (sym same.0) h) gives

  -- why it ended
  pub why_ended : {G T : Type 0} (link_of : T → ℕ) (number_of : G → ℕ) (turns_of : G → List T) (kept : N → List T) (broken : N → Bool) (serves : ℕ → G → Sight → Sight → Type 0)
      (node : N) (logs : List G) (links : ℕ) (stop : Stop) (differs : Option Differ) (result : WatchEnd N) (old new : DoorView) → IfReport result (Gives node links (is_shut stop))
      → links ≡ length logs → Attends serves stop logs old new → Compares link_of number_of turns_of logs (kept node) differs → EndsBy broken stop differs result
      → IfReport result (λ now report. WhyEnded link_of number_of turns_of kept broken serves now report result old new)
  why_ended link_of number_of turns_of kept broken serves node logs links stop differs result old new gives count attends compares ends =
      follows (Gives node links (is_shut stop)) (λ now report. WhyEnded link_of number_of turns_of kept broken serves now report result old new) result
      (λ now report same. record {
        logs = logs;
        stop = stop;
        attends = attends;
        links = same.1 ∙ count;
        shut = same.2;
        differs = differs;
        compares = subst (λ (n : N). Compares link_of number_of turns_of logs (kept n) differs) (sym same.0) compares;
        ends = ends;
      }) gives

-- with a report nothing is said of what is handed back as it was
pub handed_back : {N A : Type 0} (old : N) (door door' : A) (result : WatchEnd N) → IsReported result → HandsBack old door door' result
handed_back old door door' (Done now report) told = tt
handed_back old door door' (DoorFault now report) told = tt
handed_back old door door' (Broken now report) told = tt
handed_back old door door' (Halted now report) told = tt
handed_back old door door' (Disagree now differ report) told = tt
handed_back old door door' (Memory now) told = absurd told
