-- What a transmitter counted since it began to serve, and the responses that tell it beside its figures and its streams.
use Rattle.std.specs.Prelude.{◌≡◌, ℕ, ◌==◌, List, [], ◌++◌, Option, Some, None, Result, Ok, Err, codes, flat_map, map, if◌then◌else◌}
use Rattle.sig_counts.specs.Families.{Figures, told}
use Rattle.sig_counts.specs.Tallies.{line, value}
use Rattle.sig_courier.specs.Schedule.{Kept}
use Rattle.sig_courier.specs.declared.late.Late.{Late}
use Rattle.sig_http.specs.declared.message.Response.{Response}
use Rattle.sig_journal.specs.declared.node_fault.NodeFault.{NodeFault}
use Rattle.sig_link.specs.Answering.{response_in}
use Rattle.sig_terms.specs.declared.answer.Answer.{Answer}
use Rattle.sig_terms.specs.declared.answer.Answer.TheVariants as answer
use Rattle.sig_terms.specs.declared.rules.Rules.{Rules}
use Rattle.sig_terms.specs.declared.standing.Standing.{Standing}
use Rattle.sig_txroutes.specs.Answers.{reply, telling}
use Rattle.sig_txroutes.specs.Documents.{told_page_data}
use Rattle.sig_txroutes.specs.Metrics.{figured_with}
use Rattle.sig_txroutes.specs.declared.told_stream.ToldStream.{ToldStream}

-- what was counted; how many records its journal has; how many bytes of the file in force have a
-- meaning; and how late its streams are
pub record Counted : Type 0 where
  pub figures : Figures
  pub records : ℕ
  pub bytes : ℕ
  pub lates : Kept

unfoldable pub records_front : List ℕ
records_front = codes "# HELP signals_journal_records Records of the journal.\n# TYPE signals_journal_records gauge\nsignals_journal_records "

unfoldable pub bytes_front : List ℕ
bytes_front = codes "# HELP signals_store_bytes Bytes of the store's file in force.\n# TYPE signals_store_bytes gauge\nsignals_store_bytes "

unfoldable pub late_head : List ℕ
late_head = codes "# HELP signals_push_late_attempts Late attempts in a row to bring a stream its tokens.\n# TYPE signals_push_late_attempts gauge\n"

unfoldable pub late_front : List ℕ
late_front = codes "signals_push_late_attempts{stream=\""

unfoldable pub due_head : List ℕ
due_head = codes "# HELP signals_push_due_timestamp_seconds When a late stream is tried again, in seconds since 1970.\n# TYPE signals_push_due_timestamp_seconds gauge\n"

unfoldable pub due_front : List ℕ
due_front = codes "signals_push_due_timestamp_seconds{stream=\""

-- the lines of a stream, where it is late
abbrev pub late_line : List ℕ × Late → List ℕ
late_line kept = if kept.1.row == 0 then [] else line late_front kept.0 kept.1.row

abbrev pub due_line : List ℕ × Late → List ℕ
due_line kept = if kept.1.row == 0 then [] else line due_front kept.0 kept.1.due

abbrev pub late_part : Kept → List ℕ
late_part kept = late_head ++ flat_map late_line kept

abbrev pub due_part : Kept → List ℕ
due_part kept = due_head ++ flat_map due_line kept

abbrev pub records_part : ℕ → List ℕ
records_part records = value records_front records

abbrev pub bytes_part : ℕ → List ℕ
bytes_part bytes = value bytes_front bytes

-- all of it, as metrics
abbrev pub counted_text : Counted → List ℕ
counted_text c =
    told c.figures ++ records_part c.records ++ bytes_part c.bytes ++ late_part c.lates ++ due_part c.lates

abbrev pub IsCounted : List ℕ → Type 0
IsCounted text = (c : Counted) × (text ≡ counted_text c)

-- beside a journal of so many records and bytes
abbrev pub IsCountedAt : ℕ → ℕ → List ℕ → Type 0
IsCountedAt records bytes text =
    (c : Counted) × (c.records ≡ records) × (c.bytes ≡ bytes) × (text ≡ counted_text c)

-- ---- responses

-- the figures that the result of a turn tells
abbrev pub figures_in : Result Answer NodeFault → Option (ℕ × List Standing)
figures_in (Ok (answer.Figures publications standings)) = Some (publications, standings)
figures_in _ = None

-- the page of streams that it tells, with the place after it
abbrev pub page_in : Result Answer NodeFault → Option (ℕ × List Standing)
page_in (Ok (answer.Standings next standings)) = Some (next, standings)
page_in _ = None

abbrev pub standing_in : ToldStream → Standing
standing_in t = t.standing

-- the streams of a page are told with what came of the attempts to bring them their tokens
abbrev pub TellsPage : Option (ℕ × List Standing) → Rules → Result Answer NodeFault → Response → Type 0
TellsPage None rules result response = response ≡ response_in (λ (a : Answer). reply a rules) result
TellsPage (Some page) rules result response =
    (streams : List ToldStream) × (map standing_in streams ≡ page.1) × (response ≡ telling 200 (told_page_data page.0 streams))

-- figures are told with what was counted, and any other result by its response alone
abbrev pub TellsBy : Option (ℕ × List Standing) → Rules → Result Answer NodeFault → Response → Type 0
TellsBy None rules result response = TellsPage (page_in result) rules result response
TellsBy (Some figures) rules result response = (c : Counted) × (response ≡ figured_with figures.0 figures.1 (counted_text c))

abbrev pub Tells : Rules → Result Answer NodeFault → Response → Type 0
Tells rules result response = TellsBy (figures_in result) rules result response
