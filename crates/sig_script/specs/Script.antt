-- The lines of a script: words with one space between them, and JSON to the end of the line.
use Rattle.std.specs.Prelude.{ℕ, List, [], ◌∷◌, ◌==◌, Bool, true, Option, Some, None, option_map, option_and_then, length, nat_le, if◌then◌else◌}
use Rattle.std.specs.Str.{is_utf8}
use Rattle.sig_json.specs.Listed.{listed}
use Rattle.sig_json.specs.declared.limits.TheConstants.{SCRIPT_LINE_BYTES}
use Rattle.sig_terms.specs.declared.call.Call.TheVariants as call
use Rattle.sig_script.specs.Bodies.{publication_in, status_of, subject_in, want_in}
use Rattle.sig_script.specs.Cutting.{Cut, Names, client_cut, cut_at_space, is_word, names_cut, stream_cut}
use Rattle.sig_script.specs.LineWords.{line_words, word_text}
use Rattle.sig_script.specs.Numbers.{number_of}
use Rattle.sig_script.specs.Stopping.{Stopping, node_of, stopping_of}
use Rattle.sig_script.specs.declared.line_word.LineWord.{LineWord}
use Rattle.sig_script.specs.declared.line_word.LineWord.TheVariants as word
use Rattle.sig_script.specs.declared.script.ScriptAct.{ScriptAct}
use Rattle.sig_script.specs.declared.script.ScriptAct.TheVariants.{Call, Deliver, Answer}
use Rattle.sig_script.specs.declared.script.ScriptLine.{ScriptLine}
use Rattle.sig_script.specs.declared.script.ScriptLine.TheVariants.{Skipped, Time, Act, Check, Stop, Crash}

-- ---- calls by their names

-- `create <client> <json>`
abbrev pub create_line : Cut → Option ScriptAct
create_line c = option_map (λ want. Call (call.Create c.word want)) (want_in c.rest)

-- `patch <client> <stream> <json>`
abbrev pub patch_line : Names → Option ScriptAct
patch_line n = option_map (λ want. Call (call.Patch n.client n.stream want)) (want_in n.rest)

-- `put <client> <stream> <json>`
abbrev pub put_line : Names → Option ScriptAct
put_line n = option_map (λ want. Call (call.Put n.client n.stream want)) (want_in n.rest)

-- `delete <client> <stream>`
abbrev pub delete_line : Cut → Option ScriptAct
delete_line c = if is_word c.rest then Some (Call (call.Delete c.word c.rest)) else None

-- `status <client> <stream> <status>`
abbrev pub status_line : Names → Option ScriptAct
status_line n = option_map (λ status. Call (call.SetStatus n.client n.stream status None)) (status_of n.rest)

-- `operator <stream> <status>`
abbrev pub operator_line : Cut → Option ScriptAct
operator_line c = option_map (λ status. Call (call.OperatorStatus c.word status None)) (status_of c.rest)

-- `add <client> <stream> <json>`
abbrev pub add_line : Names → Option ScriptAct
add_line n = option_map (λ subject. Call (call.Add n.client n.stream subject)) (subject_in n.rest)

-- `remove <client> <stream> <json>`
abbrev pub remove_line : Names → Option ScriptAct
remove_line n = option_map (λ subject. Call (call.Remove n.client n.stream subject)) (subject_in n.rest)

-- `verify <client> <stream>`
abbrev pub verify_line : Cut → Option ScriptAct
verify_line c = if is_word c.rest then Some (Call (call.Verify c.word c.rest None)) else None

-- `poll <client> <stream> <max>`: it asks for tokens, and tells nothing
abbrev pub poll_line : Names → Option ScriptAct
poll_line n = option_map (λ most. Call (call.Poll n.client n.stream (record { max = Some most; acks = []; errors = [] }))) (number_of n.rest)

-- `hand <stream>`
abbrev pub hand_line : List ℕ → Option ScriptAct
hand_line rest = if is_word rest then Some (Call (call.Hand (rest ∷ []))) else None

-- ---- acts

-- what stands after each word of an act
unfoldable pub act_by : LineWord → List ℕ → Option ScriptAct
act_by word.Time rest = None
act_by word.Create rest = option_and_then create_line (client_cut rest)
act_by word.Patch rest = option_and_then patch_line (names_cut rest)
act_by word.Put rest = option_and_then put_line (names_cut rest)
act_by word.Delete rest = option_and_then delete_line (client_cut rest)
act_by word.Status rest = option_and_then status_line (names_cut rest)
act_by word.Operator rest = option_and_then operator_line (stream_cut rest)
act_by word.Add rest = option_and_then add_line (names_cut rest)
act_by word.Remove rest = option_and_then remove_line (names_cut rest)
act_by word.Verify rest = option_and_then verify_line (client_cut rest)
act_by word.Publish rest = option_map Call (publication_in rest)
act_by word.Poll rest = option_and_then poll_line (names_cut rest)
act_by word.Hand rest = hand_line rest
act_by word.Deliver rest = option_map Deliver (number_of rest)
act_by word.Answer rest = option_map Answer (number_of rest)
act_by word.Check rest = None
act_by word.Stop rest = None
act_by word.Crash rest = None

-- an act by its first word
abbrev pub worded_act : List ℕ → LineWord → Option ScriptAct
worded_act rest w = act_by w rest

abbrev pub named_act : Cut → Option ScriptAct
named_act c = option_and_then (worded_act c.rest) (listed word_text line_words c.word)

-- the act that a text is: neither empty nor a comment, no time, no question, and nothing that happens to a node
unfoldable pub act_of : List ℕ → Option ScriptAct
act_of text = option_and_then named_act (cut_at_space text)

-- ---- lines

-- `stop <tx or rx> <calls> <byte> <line>`
abbrev pub stop_line : Stopping → Option ScriptLine
stop_line s = option_map (λ act. Stop s.node s.calls s.fill act) (act_of s.line)

-- what stands after each word
unfoldable pub line_by : LineWord → List ℕ → Option ScriptLine
line_by word.Time rest = option_map Time (number_of rest)
line_by word.Create rest = option_map Act (act_by word.Create rest)
line_by word.Patch rest = option_map Act (act_by word.Patch rest)
line_by word.Put rest = option_map Act (act_by word.Put rest)
line_by word.Delete rest = option_map Act (act_by word.Delete rest)
line_by word.Status rest = option_map Act (act_by word.Status rest)
line_by word.Operator rest = option_map Act (act_by word.Operator rest)
line_by word.Add rest = option_map Act (act_by word.Add rest)
line_by word.Remove rest = option_map Act (act_by word.Remove rest)
line_by word.Verify rest = option_map Act (act_by word.Verify rest)
line_by word.Publish rest = option_map Act (act_by word.Publish rest)
line_by word.Poll rest = option_map Act (act_by word.Poll rest)
line_by word.Hand rest = option_map Act (act_by word.Hand rest)
line_by word.Deliver rest = option_map Act (act_by word.Deliver rest)
line_by word.Answer rest = option_map Act (act_by word.Answer rest)
line_by word.Check rest = option_map Check (subject_in rest)
line_by word.Stop rest = option_and_then stop_line (stopping_of rest)
line_by word.Crash rest = option_map Crash (node_of rest)

-- a line by its first word
abbrev pub worded : List ℕ → LineWord → Option ScriptLine
worded rest w = line_by w rest

abbrev pub named_line : Cut → Option ScriptLine
named_line c = option_and_then (worded c.rest) (listed word_text line_words c.word)

-- an empty line, or one that begins with `#`
abbrev pub is_comment : List ℕ → Bool
is_comment [] = true
is_comment (b ∷ bs) = b == 35

-- the line that a text is
abbrev pub text_line : List ℕ → Option ScriptLine
text_line text = if is_comment text then Some Skipped else option_and_then named_line (cut_at_space text)

-- the line that bytes are, where they are a text in UTF-8
unfoldable pub utf8_line : List ℕ → Option ScriptLine
utf8_line bytes = if is_utf8 bytes then text_line bytes else None

-- the line that bytes are, none where it is refused: it is too long, is no text in UTF-8, or has no form of these
abbrev pub script_line_of : List ℕ → Option ScriptLine
script_line_of bytes = if nat_le (length bytes) SCRIPT_LINE_BYTES then utf8_line bytes else None
