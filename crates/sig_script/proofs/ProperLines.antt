-- Each line that is read makes a proper call that tells no answer, or names a time that there may be.
use Rattle.std.proofs.Common.{◌≡◌, sym, subst, ℕ, List, [], ◌∷◌, Bool, true, false, Option, Some, None, ◌≤◌, refl, arith}
use Rattle.std.specs.Prelude.{Result, Ok, Err, IfSome, nat_le, length, option_and_then, option_map, if◌then◌else◌}
use Rattle.std.specs.Result.{result_ok}
use Rattle.std.proofs.lemmas.Bool.{leb-true}
use Rattle.std.specs.Str.{is_utf8}
use Rattle.sig_json.specs.Json.{json_of}
use Rattle.sig_json.specs.Listed.{listed}
use Rattle.sig_json.specs.declared.limits.TheConstants.{SCRIPT_LINE_BYTES}
use Rattle.sig_json.proofs.Spelled.{spells_in_order}
use Rattle.sig_subject.specs.Reading.{subject_of}
use Rattle.sig_subject.specs.Written.{IsProperSubject}
use Rattle.sig_subject.specs.declared.subject.Subject.{Subject}
use Rattle.sig_subject.proofs.ProperRead.{reads_proper}
use Rattle.sig_terms.specs.declared.call.Call.{Call as Made}
use Rattle.sig_terms.specs.declared.call.Call.TheVariants as call
use Rattle.sig_terms.specs.declared.want.Want.{Want}
use Rattle.sig_stream.specs.Publications.{ReadsProperPublications, publish_of}
use Rattle.sig_stream.specs.Wants.{want_of}
use Rattle.sig_calls.specs.Proper.{IsProperWant}
use Rattle.sig_stream.proofs.ProperPublications.{reads_proper_publications}
use Rattle.sig_bounds.specs.Wants.{WantsAreProper}
use Rattle.sig_bounds.proofs.WantSizes.{wants_proper}
use Rattle.sig_script.specs.Bodies.{publication_by, publication_in, status_of, subject_by, subject_in, want_by, want_in}
use Rattle.sig_script.specs.Cutting.{Cut, Names, client_cut, cut_at_space, is_word, names_cut, stream_cut}
use Rattle.sig_script.specs.Laws.{IsProperLine, IsProperScriptAct, LinesAreProper}
use Rattle.sig_script.specs.LineWords.{line_words, word_text}
use Rattle.sig_script.specs.Numbers.{number_of}
use Rattle.sig_script.specs.Script.{act_by, act_of, add_line, create_line, delete_line, is_comment, line_by, named_act, named_line, operator_line, patch_line, poll_line, put_line, remove_line, script_line_of, status_line, stop_line, text_line, utf8_line, verify_line, worded, worded_act}
use Rattle.sig_script.specs.Stopping.{Stopping, node_of, stopping_of}
use Rattle.sig_script.specs.declared.line_word.LineWord.{LineWord}
use Rattle.sig_script.specs.declared.line_word.LineWord.TheVariants as word
use Rattle.sig_script.specs.declared.script.ScriptAct.{ScriptAct}
use Rattle.sig_script.specs.declared.script.ScriptAct.TheVariants.{Call, Deliver, Answer}
use Rattle.sig_script.specs.declared.script.ScriptLine.{ScriptLine}
use Rattle.sig_script.specs.declared.script.ScriptLine.TheVariants.{Skipped, Time, Act, Check, Stop, Crash}
use Rattle.sig_script.proofs.CutLemmas.{client_short, cut_short, names_short}
use Rattle.sig_script.proofs.Optional.{some_if, some_map, some_then, some_where, there}
use Rattle.sig_script.proofs.StopLemmas.{stopping_short, stopping_calls}
use Rattle.sig_script.proofs.NumberLemmas.{number_within}

-- ---- bodies

none_some : {A P : Type 0} (a : A) → (let o : Option A = None in o ≡ Some a) → P
none_some a h = cc h

some_same : {A : Type 0} (a b : A) → (let o : Option A = Some a in o ≡ Some b) → a ≡ b
some_same a b h = cc h

-- where something is there after two steps, it is there after each
both_there : {A B : Type 0} (f : A → Option B) (o : Option A) (b : B) → option_and_then f o ≡ Some b → (a : A) × (o ≡ Some a) × (f a ≡ Some b)
both_there f None b h = none_some b h
both_there f (Some a) b h = (a, refl, h)

ok_there : {T E : Type 0} (r : Result T E) (x : T) → result_ok r ≡ Some x → r ≡ Ok x
ok_there (Ok y) x h = cc h
ok_there (Err e) x h = none_some x h

proper_subject : (text : List ℕ) (s : Subject) → subject_in text ≡ Some s → IsProperSubject s
proper_subject text s h =
    let (body, spelled, read) = both_there subject_by (json_of text) s h in
    let order = spells_in_order text body spelled in
    reads_proper body s order.0 order.1 (ok_there (subject_of body) s read)

proper_want : WantsAreProper → (text : List ℕ) (want : Want) → length text ≤ SCRIPT_LINE_BYTES → want_in text ≡ Some want → IsProperWant want
proper_want proper text want short h =
    let (body, spelled, read) = both_there want_by (json_of text) want h in
    proper text body false want (omega arith) spelled (ok_there (want_of false body) want read)

proper_publication : ReadsProperPublications → (text : List ℕ) (c : Made) → publication_in text ≡ Some c → IsProperScriptAct (Call c)
proper_publication proper text c h =
    let (body, spelled, read) = both_there publication_by (json_of text) c h in
    let order = spells_in_order text body spelled in
    let (id, news, is, named, told) = proper body c order.0 order.1 (ok_there (publish_of body) c read) in
    subst (λ made. IsProperScriptAct (Call made)) (sym is) (told, tt)

-- ---- acts

abbrev polled : Names → ℕ → ScriptAct
polled n most = Call (call.Poll n.client n.stream (record { max = Some most; acks = []; errors = [] }))

act_proper : ReadsProperPublications → WantsAreProper → (w : LineWord) (rest : List ℕ) → length rest ≤ SCRIPT_LINE_BYTES → IfSome (act_by w rest) IsProperScriptAct
unfolding act_by
act_proper proper wants word.Time rest short = tt
act_proper proper wants word.Create rest short = some_then IsProperScriptAct create_line (client_cut rest)
    (λ c at. some_map IsProperScriptAct (λ want. Call (call.Create c.word want)) (want_in c.rest)
    (λ want is. (proper_want wants c.rest want (omega (arith, client_short rest c at)) is, tt)))
act_proper proper wants word.Patch rest short = some_then IsProperScriptAct patch_line (names_cut rest)
    (λ n at. some_map IsProperScriptAct (λ want. Call (call.Patch n.client n.stream want)) (want_in n.rest)
    (λ want is. (proper_want wants n.rest want (omega (arith, names_short rest n at)) is, tt)))
act_proper proper wants word.Put rest short = some_then IsProperScriptAct put_line (names_cut rest)
    (λ n at. some_map IsProperScriptAct (λ want. Call (call.Put n.client n.stream want)) (want_in n.rest)
    (λ want is. (proper_want wants n.rest want (omega (arith, names_short rest n at)) is, tt)))
act_proper proper wants word.Delete rest short = some_then IsProperScriptAct delete_line (client_cut rest)
    (λ c at. some_if IsProperScriptAct (is_word c.rest) (Some (Call (call.Delete c.word c.rest))) (tt, tt))
act_proper proper wants word.Status rest short = some_then IsProperScriptAct status_line (names_cut rest)
    (λ n at. some_map IsProperScriptAct (λ status. Call (call.SetStatus n.client n.stream status None)) (status_of n.rest) (λ status is. (tt, tt)))
act_proper proper wants word.Operator rest short = some_then IsProperScriptAct operator_line (stream_cut rest)
    (λ c at. some_map IsProperScriptAct (λ status. Call (call.OperatorStatus c.word status None)) (status_of c.rest) (λ status is. (tt, tt)))
act_proper proper wants word.Add rest short = some_then IsProperScriptAct add_line (names_cut rest)
    (λ n at. some_map IsProperScriptAct (λ subject. Call (call.Add n.client n.stream subject)) (subject_in n.rest) (λ subject is. (proper_subject n.rest subject is, tt)))
act_proper proper wants word.Remove rest short = some_then IsProperScriptAct remove_line (names_cut rest)
    (λ n at. some_map IsProperScriptAct (λ subject. Call (call.Remove n.client n.stream subject)) (subject_in n.rest) (λ subject is. (proper_subject n.rest subject is, tt)))
act_proper proper wants word.Verify rest short = some_then IsProperScriptAct verify_line (client_cut rest)
    (λ c at. some_if IsProperScriptAct (is_word c.rest) (Some (Call (call.Verify c.word c.rest None))) (tt, tt))
act_proper proper wants word.Publish rest short = some_map IsProperScriptAct Call (publication_in rest) (λ c is. proper_publication proper rest c is)
act_proper proper wants word.Poll rest short = some_then IsProperScriptAct poll_line (names_cut rest)
    (λ n at. some_map IsProperScriptAct (polled n) (number_of n.rest) (λ most is. (tt, (refl, refl))))
act_proper proper wants word.Hand rest short = some_if IsProperScriptAct (is_word rest) (Some (Call (call.Hand (rest ∷ [])))) (tt, tt)
act_proper proper wants word.Deliver rest short = some_map IsProperScriptAct Deliver (number_of rest) (λ n is. tt)
act_proper proper wants word.Answer rest short = some_map IsProperScriptAct Answer (number_of rest) (λ n is. tt)
act_proper proper wants word.Check rest short = tt
act_proper proper wants word.Stop rest short = tt
act_proper proper wants word.Crash rest short = tt

act_named : ReadsProperPublications → WantsAreProper → (text : List ℕ) → length text ≤ SCRIPT_LINE_BYTES → IfSome (act_of text) IsProperScriptAct
unfolding act_of
act_named proper wants text short = some_then IsProperScriptAct named_act (cut_at_space text)
    (λ c is. some_then IsProperScriptAct (worded_act c.rest) (listed word_text line_words c.word)
    (λ w named. act_proper proper wants w c.rest (omega (arith, cut_short text c is))))

-- ---- lines

acts_proper : ReadsProperPublications → WantsAreProper → (w : LineWord) (rest : List ℕ) → length rest ≤ SCRIPT_LINE_BYTES → IfSome (option_map Act (act_by w rest)) IsProperLine
acts_proper proper wants w rest short = some_map IsProperLine Act (act_by w rest) (λ act is. there IsProperScriptAct (act_by w rest) act (act_proper proper wants w rest short) is)

stop_proper : ReadsProperPublications → WantsAreProper → (rest : List ℕ) → length rest ≤ SCRIPT_LINE_BYTES → IfSome (option_and_then stop_line (stopping_of rest)) IsProperLine
stop_proper proper wants rest short = some_then IsProperLine stop_line (stopping_of rest)
    (λ s at. some_map IsProperLine (λ act. Stop s.node s.calls s.fill act) (act_of s.line)
    (λ act is. (stopping_calls rest s at, there IsProperScriptAct (act_of s.line) act (act_named proper wants s.line (omega (arith, stopping_short rest s at))) is)))

proper_by : ReadsProperPublications → WantsAreProper → (w : LineWord) (rest : List ℕ) → length rest ≤ SCRIPT_LINE_BYTES → IfSome (line_by w rest) IsProperLine
unfolding line_by
proper_by proper wants word.Time rest short = some_map IsProperLine Time (number_of rest) (λ n is. number_within rest n is)
proper_by proper wants word.Create rest short = acts_proper proper wants word.Create rest short
proper_by proper wants word.Patch rest short = acts_proper proper wants word.Patch rest short
proper_by proper wants word.Put rest short = acts_proper proper wants word.Put rest short
proper_by proper wants word.Delete rest short = acts_proper proper wants word.Delete rest short
proper_by proper wants word.Status rest short = acts_proper proper wants word.Status rest short
proper_by proper wants word.Operator rest short = acts_proper proper wants word.Operator rest short
proper_by proper wants word.Add rest short = acts_proper proper wants word.Add rest short
proper_by proper wants word.Remove rest short = acts_proper proper wants word.Remove rest short
proper_by proper wants word.Verify rest short = acts_proper proper wants word.Verify rest short
proper_by proper wants word.Publish rest short = acts_proper proper wants word.Publish rest short
proper_by proper wants word.Poll rest short = acts_proper proper wants word.Poll rest short
proper_by proper wants word.Hand rest short = acts_proper proper wants word.Hand rest short
proper_by proper wants word.Deliver rest short = acts_proper proper wants word.Deliver rest short
proper_by proper wants word.Answer rest short = acts_proper proper wants word.Answer rest short
proper_by proper wants word.Check rest short = some_map IsProperLine Check (subject_in rest) (λ subject is. tt)
proper_by proper wants word.Stop rest short = stop_proper proper wants rest short
proper_by proper wants word.Crash rest short = some_map IsProperLine Crash (node_of rest) (λ node is. tt)

proper_named : ReadsProperPublications → WantsAreProper → (c : Cut) → length c.rest ≤ SCRIPT_LINE_BYTES → IfSome (named_line c) IsProperLine
proper_named proper wants c short = some_then IsProperLine (worded c.rest) (listed word_text line_words c.word) (λ w is. proper_by proper wants w c.rest short)

proper_text : ReadsProperPublications → WantsAreProper → (text : List ℕ) → length text ≤ SCRIPT_LINE_BYTES → IfSome (text_line text) IsProperLine
proper_text proper wants text short = by_comment (is_comment text)
  where
    by_comment : (t : Bool) → IfSome (if t then Some Skipped else option_and_then named_line (cut_at_space text)) IsProperLine
    by_comment true = tt
    by_comment false = some_then IsProperLine named_line (cut_at_space text) (λ c is. proper_named proper wants c (omega (arith, cut_short text c is)))

proper_utf8 : ReadsProperPublications → WantsAreProper → (bytes : List ℕ) → length bytes ≤ SCRIPT_LINE_BYTES → IfSome (utf8_line bytes) IsProperLine
unfolding utf8_line
proper_utf8 proper wants bytes short = some_if IsProperLine (is_utf8 bytes) (text_line bytes) (proper_text proper wants bytes short)

pub lines_are_proper : ReadsProperPublications → WantsAreProper → LinesAreProper
lines_are_proper proper wants bytes =
    some_where IsProperLine (nat_le (length bytes) SCRIPT_LINE_BYTES) (utf8_line bytes)
    (λ short. proper_utf8 proper wants bytes (leb-true (length bytes) SCRIPT_LINE_BYTES short))

-- a line that is read is one of these
pub line_proper : (bytes : List ℕ) (line : ScriptLine) → script_line_of bytes ≡ Some line → IsProperLine line
line_proper bytes line is = subst (λ o. IfSome o IsProperLine) is (lines_are_proper reads_proper_publications wants_proper bytes)
