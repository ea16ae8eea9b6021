-- A publication that comes again.
use Rattle.std.specs.Prelude.{◌≡◌, ℕ, List, true, false, Option, None, Ok}
use Rattle.std.specs.Option.{option_to_list}
use Rattle.sig_event.specs.News.{is_same_news}
use Rattle.sig_event.specs.declared.news.News.{News}
use Rattle.sig_terms.specs.Reply.{Reply}
use Rattle.sig_terms.specs.declared.answer.Answer.{Answer}
use Rattle.sig_terms.specs.declared.answer.Answer.TheVariants as answer
use Rattle.sig_terms.specs.declared.call.Call.TheVariants.{Publish}
use Rattle.sig_terms.specs.declared.fact.Fact.{Fact}
use Rattle.sig_terms.specs.declared.rules.Rules.{Rules}
use Rattle.sig_terms.specs.declared.token.Issued.{Issued}
use Rattle.sig_history.specs.Owed.{Sum, sum_of}
use Rattle.sig_calls.specs.Table.{prepared_of}

-- an answer with the fact of its call, if any
abbrev pub reply : Answer → Option Fact → Reply
reply given change = record { answer = given; change = change }

-- news were published under a name, and this was the answer
abbrev pub WasPublished : Rules → Sum → List ℕ → News → ℕ → List ℕ → List Issued → Option Fact → Type 0
WasPublished rules sum id n now store_id tokens change =
    prepared_of rules sum (Publish id n) now ≡ Ok (reply (answer.Published store_id tokens) change)

-- what a history came to, after the fact of that call, if any, and facts that came later
abbrev pub later_sum : Sum → Option Fact → List Fact → Sum
later_sum sum change facts = sum_of (sum_of sum (option_to_list change)) facts

-- the first answer is the answer to each repeat, whatever facts come between and at whatever time; no rules are asked
abbrev pub RepeatsAreAnsweredAlike : Type 0
RepeatsAreAnsweredAlike = (rules others : Rules) (sum : Sum) (id : List ℕ) (n again : News) (now later : ℕ) (facts : List Fact)
    (store_id : List ℕ) (tokens : List Issued) (change : Option Fact)
    → WasPublished rules sum id n now store_id tokens change → is_same_news n again ≡ true
    → prepared_of others (later_sum sum change facts) (Publish id again) later ≡ Ok (reply (answer.Published store_id tokens) None)

-- and other news under its name are a conflict
abbrev pub OtherNewsConflict : Type 0
OtherNewsConflict = (rules others : Rules) (sum : Sum) (id : List ℕ) (n other : News) (now later : ℕ) (facts : List Fact)
    (store_id : List ℕ) (tokens : List Issued) (change : Option Fact)
    → WasPublished rules sum id n now store_id tokens change → is_same_news n other ≡ false
    → prepared_of others (later_sum sum change facts) (Publish id other) later ≡ Ok (reply answer.Conflict None)
