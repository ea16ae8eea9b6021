-- A fact that names a stream leaves every other one and what it owes as they were.
use Rattle.std.proofs.Common.{◌≡◌, ◌∙◌, ap, sym, subst, ℕ, List, [], ◌∷◌, ◌++◌, ◌+◌, map, filter, Bool, true, false, not, ◌&&◌, ◌||◌, Option, Some, None, bytes_eq, if◌then◌else◌, refl, append-nil}
use Rattle.std.specs.Prelude.{option_map}
use Rattle.std.specs.Option.{option_map_or}
use Rattle.std.proofs.lemmas.Bool.{or_parts}
use Rattle.sig_terms.specs.declared.fact.Fact.{Fact}
use Rattle.sig_terms.specs.declared.fact.Fact.TheVariants.{Created, Configured, StatusSet, Listed, Unlisted, Deleted, Published, Settled, Asked}
use Rattle.sig_history.specs.Changes.{FactsLeaveOthers, stream_of}
use Rattle.sig_history.specs.Facts.{brought_by, configured, new_stream, parts_after, placed, removed_by, stream_after, tells, time_of, token_by, token_for, told_one, updated_news, verified_news, without}
use Rattle.sig_history.specs.Owed.{Sum, names_number, owed_after, owed_by, owed_in, stream_named, sum_of, takes_off}
use Rattle.sig_history.specs.Streams.{Made, Parts, Stream, client_in, created_by, is_before, is_disabled, is_named, list_added, list_removed, put_in_order, stands, with_asked, with_conf, with_listed, with_status}
use Rattle.sig_history.specs.Whole.{IsWhole}
use Rattle.sig_history.proofs.ChangeLemmas.{named_after, named_is}
use Rattle.sig_history.proofs.JoinLemmas.{none_in}
use Rattle.sig_owing.proofs.OwedStepLemmas.{owed_one_more}
use Rattle.sig_history.proofs.StepLemmas.{filter_all}
use Rattle.sig_history.proofs.StreamLemmas.{is_taken, other_text, same_text}

-- ---- another stream under a fact

-- a stream of another name hasn't the name
not_named : (name other : List ℕ) (s : Stream) → bytes_eq name other ≡ false → is_named other s ≡ true → is_named name s ≡ false
not_named name other s apart is = ap (λ n. bytes_eq n name) (same_text s.conf.stream other is) ∙ other_text name other apart

and_false : (b : Bool) → (b && false) ≡ false
and_false true = refl
and_false false = refl

-- a stream that hasn't the name that a fact names is told nothing by it, and stays as it is
tells_others : (f : Fact) (name : List ℕ) (s : Stream) → stream_of f ≡ Some name → is_named name s ≡ false → tells f s ≡ None
tells_others (Created conf time) name s is apart = refl
tells_others (Configured stream requested delivery description) name s is apart = refl
tells_others (StatusSet stream status reason operator time) name s is apart =
    let same : stream ≡ name = cc in
    let not : is_named stream s ≡ false = subst (λ n. is_named n s ≡ false) (sym same) apart in
    ap (λ b. if operator && b then Some (updated_news stream status reason) else None) not
    ∙ ap (λ b. if b then Some (updated_news stream status reason) else None) (and_false operator)
tells_others (Listed stream subject) name s is apart = refl
tells_others (Unlisted stream subject) name s is apart = refl
tells_others (Deleted stream) name s is apart = refl
tells_others (Published id news time) name s is apart = cc is
tells_others (Settled stream items) name s is apart = refl
tells_others (Asked stream state time) name s is apart =
    let same : stream ≡ name = cc in
    let not : is_named stream s ≡ false = subst (λ n. is_named n s ≡ false) (sym same) apart in
    ap (λ b. if b then Some (verified_news stream state) else None) not

after_others : (f : Fact) (name : List ℕ) (s : Stream) → stream_of f ≡ Some name → is_named name s ≡ false → stream_after f s ≡ s
after_others (Created conf time) name s is apart = refl
after_others (Configured stream requested delivery description) name s is apart =
    let same : stream ≡ name = cc in
    let not : is_named stream s ≡ false = subst (λ n. is_named n s ≡ false) (sym same) apart in
    ap (λ b. if b then with_conf (configured requested delivery description s.conf) s else s) not
after_others (StatusSet stream status reason operator time) name s is apart =
    let same : stream ≡ name = cc in
    let not : is_named stream s ≡ false = subst (λ n. is_named n s ≡ false) (sym same) apart in
    ap (λ o. told_one o (if is_named stream s then with_status status reason s else s)) (tells_others (StatusSet stream status reason operator time) name s is apart)
    ∙ ap (λ b. if b then with_status status reason s else s) not
after_others (Listed stream subject) name s is apart =
    let same : stream ≡ name = cc in
    let not : is_named stream s ≡ false = subst (λ n. is_named n s ≡ false) (sym same) apart in
    ap (λ b. if b then with_listed (list_added subject s.listed) s else s) not
after_others (Unlisted stream subject) name s is apart =
    let same : stream ≡ name = cc in
    let not : is_named stream s ≡ false = subst (λ n. is_named n s ≡ false) (sym same) apart in
    ap (λ b. if b then with_listed (list_removed subject s.listed) s else s) not
after_others (Deleted stream) name s is apart = refl
after_others (Published id news time) name s is apart = cc is
after_others (Settled stream items) name s is apart = refl
after_others (Asked stream state time) name s is apart =
    let same : stream ≡ name = cc in
    let not : is_named stream s ≡ false = subst (λ n. is_named n s ≡ false) (sym same) apart in
    ap (λ o. told_one o (if is_named stream s then with_asked time s else s)) (tells_others (Asked stream state time) name s is apart)
    ∙ ap (λ b. if b then with_asked time s else s) not

keeps_others : (f : Fact) (name other : List ℕ) (t : Made) → stream_of f ≡ Some name → bytes_eq name other ≡ false → takes_off other f t ≡ false
keeps_others (Created conf time) name other t is apart = refl
keeps_others (Configured stream requested delivery description) name other t is apart = refl
keeps_others (StatusSet stream status reason operator time) name other t is apart =
    let same : stream ≡ name = cc in ap (λ n. bytes_eq n other && is_disabled status) same ∙ ap (λ b. b && is_disabled status) apart
keeps_others (Listed stream subject) name other t is apart = refl
keeps_others (Unlisted stream subject) name other t is apart = refl
keeps_others (Deleted stream) name other t is apart = let same : stream ≡ name = cc in ap (λ n. bytes_eq n other) same ∙ apart
keeps_others (Published id news time) name other t is apart = refl
keeps_others (Settled stream items) name other t is apart =
    let same : stream ≡ name = cc in ap (λ n. bytes_eq n other && names_number t.number items) same ∙ ap (λ b. b && names_number t.number items) apart
keeps_others (Asked stream state time) name other t is apart = refl

-- ---- where it is found

found_same : (change : Stream → Stream) (o : Option Stream) → ((s : Stream) → o ≡ Some s → change s ≡ s) → option_map change o ≡ o
found_same change None same = refl
found_same change (Some s) same = ap (λ t. Some t) (same s refl)

named_without : (gone other : List ℕ) (ss : List Stream) → bytes_eq gone other ≡ false → stream_named other (without (Some gone) ss) ≡ stream_named other ss
named_without gone other [] apart = refl
named_without gone other (s ∷ ss) apart =
    elim (is_named gone s) as (λ b. is_named gone s ≡ b → stream_named other (if not b then s ∷ without (Some gone) ss else without (Some gone) ss)
    ≡ (if is_named other s then Some s else stream_named other ss)) [
      | true ↦ λ is. named_without gone other ss apart
          ∙ ap (λ b. if b then Some s else stream_named other ss) (sym (ap (λ n. bytes_eq n other) (same_text s.conf.stream gone is) ∙ apart))
      | false ↦ λ stays. ap (λ o. if is_named other s then Some s else o) (named_without gone other ss apart)
    ] refl

named_put : (n : Stream) (other : List ℕ) (ss : List Stream) → is_named other n ≡ false → stream_named other (put_in_order n ss) ≡ stream_named other ss
named_put n other [] apart = ap (λ b. if b then Some n else None) apart
named_put n other (s ∷ ss) apart =
    elim (is_before s n) as (λ b. stream_named other (if b then s ∷ put_in_order n ss else n ∷ s ∷ ss) ≡ (if is_named other s then Some s else stream_named other ss)) [
      | true ↦ ap (λ o. if is_named other s then Some s else o) (named_put n other ss apart)
      | false ↦ ap (λ b. if b then Some n else (if is_named other s then Some s else stream_named other ss)) apart
    ]

named_placed : (o : Option Stream) (other : List ℕ) (ss : List Stream) → ((n : Stream) → o ≡ Some n → is_named other n ≡ false)
    → stream_named other (placed o ss) ≡ stream_named other ss
named_placed None other ss apart = refl
named_placed (Some n) other ss apart = named_put n other ss (apart n refl)

named_removed : (o : Option (List ℕ)) (other : List ℕ) (ss : List Stream) → ((gone : List ℕ) → o ≡ Some gone → bytes_eq gone other ≡ false)
    → stream_named other (without o ss) ≡ stream_named other ss
named_removed None other ss apart = refl
named_removed (Some gone) other ss apart = named_without gone other ss (apart gone refl)

-- what a fact brings has the name that it names, and so has what it takes away
brings_named : (p : Parts) (f : Fact) (name other : List ℕ) (n : Stream) → stream_of f ≡ Some name → bytes_eq name other ≡ false
    → brought_by p f ≡ Some n → is_named other n ≡ false
brings_named p (Created conf time) name other n is apart brings =
    let same : conf.stream ≡ name = cc in
    let new : new_stream (client_in conf.stream) (created_by (client_in conf.stream) p.created + 1) conf ≡ n = cc in
    subst (λ t. is_named other t ≡ false) new (ap (λ m. bytes_eq m other) same ∙ apart)
brings_named p (Configured stream requested delivery description) name other n is apart brings = cc brings
brings_named p (StatusSet stream status reason operator time) name other n is apart brings = cc brings
brings_named p (Listed stream subject) name other n is apart brings = cc brings
brings_named p (Unlisted stream subject) name other n is apart brings = cc brings
brings_named p (Deleted stream) name other n is apart brings = cc brings
brings_named p (Published id news time) name other n is apart brings = cc brings
brings_named p (Settled stream items) name other n is apart brings = cc brings
brings_named p (Asked stream state time) name other n is apart brings = cc brings

removes_named : (f : Fact) (name gone : List ℕ) → stream_of f ≡ Some name → removed_by f ≡ Some gone → gone ≡ name
removes_named (Created conf time) name gone is removes = cc removes
removes_named (Configured stream requested delivery description) name gone is removes = cc removes
removes_named (StatusSet stream status reason operator time) name gone is removes = cc removes
removes_named (Listed stream subject) name gone is removes = cc removes
removes_named (Unlisted stream subject) name gone is removes = cc removes
removes_named (Deleted stream) name gone is removes = cc
removes_named (Published id news time) name gone is removes = cc removes
removes_named (Settled stream items) name gone is removes = cc removes
removes_named (Asked stream state time) name gone is removes = cc removes

others_found : (p : Parts) (f : Fact) (name other : List ℕ) → stream_of f ≡ Some name → bytes_eq name other ≡ false
    → stream_named other (parts_after p f).streams ≡ stream_named other p.streams
others_found p f name other is apart =
    let changed : List Stream = map (stream_after f) p.streams in
    named_placed (brought_by p f) other (without (removed_by f) changed) (λ n brings. brings_named p f name other n is apart brings)
    ∙ named_removed (removed_by f) other changed
    (λ gone removes. ap (λ m. bytes_eq m other) (removes_named f name gone is removes) ∙ apart)
    ∙ named_after f other p.streams
    ∙ found_same (stream_after f) (stream_named other p.streams)
    (λ s named. after_others f name s is (not_named name other s apart (named_is other p.streams s named)))

-- ---- what it owes

untaken : (o : Option (List ℕ)) (name other : List ℕ) → ((gone : List ℕ) → o ≡ Some gone → gone ≡ name) → bytes_eq name other ≡ false → is_taken o other ≡ false
untaken None name other is apart = refl
untaken (Some gone) name other is apart = ap (bytes_eq other) (is gone refl) ∙ other_text name other apart

none_told : (sid : List ℕ) (f : Fact) (o : Option Stream) → ((s : Stream) → o ≡ Some s → tells f s ≡ None) → option_map_or (token_for sid f) o [] ≡ []
none_told sid f None none = refl
none_told sid f (Some s) none = ap (token_by sid (time_of f) s) (none s refl)

stands_named : (name : List ℕ) (ss : List Stream) → stands name ss ≡ option_map_or (λ (s : Stream). true) (stream_named name ss) false
stands_named name [] = refl
stands_named name (s ∷ ss) =
    elim (is_named name s) as (λ b. (b || stands name ss) ≡ option_map_or (λ (t : Stream). true) (if b then Some s else stream_named name ss) false) [
      | true ↦ refl
      | false ↦ stands_named name ss
    ]

absent_owes : (name : List ℕ) (ss : List Stream) (os : List (List Made)) → stands name ss ≡ false → owed_in name ss os ≡ []
absent_owes name [] os absent = refl
absent_owes name (s ∷ ss) [] absent = refl
absent_owes name (s ∷ ss) (o ∷ os) absent =
    let parts = or_parts (is_named name s) (stands name ss) absent in
    ap (λ b. if b then o else owed_in name ss os) parts.0 ∙ absent_owes name ss os parts.1

others_owe : (sum : Sum) (f : Fact) (name other : List ℕ) → IsWhole sum → stream_of f ≡ Some name → bytes_eq name other ≡ false
    → owed_by (sum_of sum (f ∷ [])) other ≡ owed_by sum other
others_owe sum f name other whole is apart = by (stands other sum.parts.streams) refl
  where
    by : (b : Bool) → stands other sum.parts.streams ≡ b → owed_by (sum_of sum (f ∷ [])) other ≡ owed_by sum other
    by true here =
        let owed : List Made = owed_by sum other in
        owed_one_more sum f other whole here (untaken (removed_by f) name other (λ gone removes. removes_named f name gone is removes) apart)
        ∙ ap (λ l. filter (λ (t : Made). not (takes_off other f t)) owed ++ l)
        (none_told sum.parts.store_id f (stream_named other sum.parts.streams)
        (λ s named. tells_others f name s is (not_named name other s apart (named_is other sum.parts.streams s named))))
        ∙ append-nil (filter (λ (t : Made). not (takes_off other f t)) owed)
        ∙ filter_all (λ (t : Made). not (takes_off other f t)) (λ (t : Made). ap (λ b. not b) (keeps_others f name other t is apart)) owed
    by false absent =
        let after : Parts = parts_after sum.parts f in
        let still : stands other after.streams ≡ false =
        stands_named other after.streams ∙ ap (λ o. option_map_or (λ (s : Stream). true) o false) (others_found sum.parts f name other is apart)
        ∙ sym (stands_named other sum.parts.streams) ∙ absent in
        none_in other after.streams (owed_after sum (f ∷ [])) still ∙ sym (absent_owes other sum.parts.streams sum.owed absent)

pub facts_leave_others : FactsLeaveOthers
facts_leave_others sum f name other whole is apart = (others_found sum.parts f name other is apart, others_owe sum f name other whole is apart)
