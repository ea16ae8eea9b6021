-- What a receiver counted since it began to serve, and the response that tells its figures.
use Rattle.std.specs.Prelude.{◌≡◌, ℕ, List, ◌++◌, Option, Some, None, Result, Ok, codes}
use Rattle.sig_counts.specs.Families.{Figures, told}
use Rattle.sig_counts.specs.Tallies.{value}
use Rattle.sig_http.specs.declared.message.Response.{Response}
use Rattle.sig_journal.specs.declared.node_fault.NodeFault.{NodeFault}
use Rattle.sig_link.specs.Answering.{response_in}
use Rattle.sig_rxnode.specs.declared.answer.RxAnswer.{RxAnswer}
use Rattle.sig_rxnode.specs.declared.answer.RxAnswer.TheVariants as answer
use Rattle.sig_rxroutes.specs.Answers.{reply}
use Rattle.sig_rxroutes.specs.Metrics.{figured_with}

-- what was counted, and how many bytes of the store's file in force have a meaning
pub record Counted : Type 0 where
  pub figures : Figures
  pub bytes : ℕ

unfoldable pub bytes_front : List ℕ
bytes_front = codes "# HELP signals_store_bytes Bytes of the store's file in force.\n# TYPE signals_store_bytes gauge\nsignals_store_bytes "

-- all of it, as metrics
abbrev pub counted_text : Counted → List ℕ
counted_text c = told c.figures ++ value bytes_front c.bytes

abbrev pub IsCounted : List ℕ → Type 0
IsCounted text = (c : Counted) × (text ≡ counted_text c)

-- beside a file of so many bytes
abbrev pub IsCountedAt : ℕ → List ℕ → Type 0
IsCountedAt bytes text = (c : Counted) × (c.bytes ≡ bytes) × (text ≡ counted_text c)

-- the figures that the result of a turn tells: how many tokens and rows there are
abbrev pub figures_in : Result RxAnswer NodeFault → Option (ℕ × ℕ)
figures_in (Ok (answer.Figures tokens rows)) = Some (tokens, rows)
figures_in _ = None

-- figures are told with what was counted, and any other result by its response alone
abbrev pub TellsBy : Option (ℕ × ℕ) → Result RxAnswer NodeFault → Response → Type 0
TellsBy None result response = response ≡ response_in reply result
TellsBy (Some figures) result response = (c : Counted) × (response ≡ figured_with figures.0 figures.1 (counted_text c))

abbrev pub Tells : Result RxAnswer NodeFault → Response → Type 0
Tells result response = TellsBy (figures_in result) result response
