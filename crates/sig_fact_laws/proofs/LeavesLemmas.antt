-- What facts leave alone: what streams owe, and how a stream was set up.
use Rattle.std.proofs.Common.{◌≡◌, ◌∙◌, ap, sym, ℕ, List, [], ◌∷◌, ◌++◌, map, filter, flat_map, Bool, true, false, not, Option, Some, None, if◌then◌else◌, refl, append-nil}
use Rattle.std.specs.Prelude.{option_map}
use Rattle.std.specs.List.{list_all}
use Rattle.std.proofs.lemmas.Bool.{and_parts, or_parts}
use Rattle.sig_event.specs.declared.news.News.{News}
use Rattle.sig_terms.specs.declared.fact.Fact.{Fact}
use Rattle.sig_terms.specs.declared.fact.Fact.TheVariants.{Configured, Listed, Unlisted, Published, Settled, Asked}
use Rattle.sig_history.specs.Streams.{Made, Parts, Stream, is_named, stands, with_asked}
use Rattle.sig_history.specs.Facts.{brought_by, changed_by, parts_after, placed, removed_by, stream_after, tells, token_for, told_one, without}
use Rattle.sig_history.specs.Owed.{Sum, is_of, owed_after, owed_by, owed_in, stream_named, sum_of, survives, takes_off}
use Rattle.sig_history.proofs.ChangeLemmas.{named_after}
use Rattle.sig_history.proofs.JoinLemmas.{found, joined, none_in}
use Rattle.sig_history.proofs.StepLemmas.{filter_all, owed_step}
use Rattle.sig_history.proofs.StreamLemmas.{stands_after}
use Rattle.sig_fact_laws.specs.Leaves.{CarryingLeavesTheSetup, SettingUpLeavesWhatIsOwed, carries, sets_up, setup_of}

-- ---- the streams that stand

-- a fact that neither brings a stream nor takes one away
record IsBetween (f : Fact) : Type 0 where
  brings : (p : Parts) → brought_by p f ≡ None
  removes : removed_by f ≡ None

same_streams : (p : Parts) (f : Fact) → IsBetween f → (parts_after p f).streams ≡ map (stream_after f) p.streams
same_streams p f between =
    let after : List Stream = map (stream_after f) p.streams in
    ap (λ o. placed o (without (removed_by f) after)) (between.brings p) ∙ ap (λ o. without o after) between.removes

-- ---- what is owed

pub nothing_beside : (name : List ℕ) (ss : List Stream) (os : List (List Made)) → stands name ss ≡ false → owed_in name ss os ≡ []
nothing_beside name [] os absent = refl
nothing_beside name (s ∷ ss) [] absent = refl
nothing_beside name (s ∷ ss) (o ∷ os) absent =
    let parts = or_parts (is_named name s) (stands name ss) absent in
    ap (λ b. if b then o else owed_in name ss os) parts.0 ∙ nothing_beside name ss os parts.1

none_made : (sid : List ℕ) (f : Fact) (ss : List Stream) → ((s : Stream) → tells f s ≡ None) → flat_map (token_for sid f) ss ≡ []
none_made sid f [] silent = refl
none_made sid f (s ∷ ss) silent = rw (silent s) (none_made sid f ss silent)

-- a fact that tells no stream anything and takes nothing off
record IsQuiet (f : Fact) : Type 0 where
  between : IsBetween f
  silent : (s : Stream) → tells f s ≡ None
  leaves : (name : List ℕ) (t : Made) → takes_off name f t ≡ false

quiet : (f : Fact) → sets_up f ≡ true → IsQuiet f
quiet (Configured stream requested delivery description) h =
    record { between = record { brings = λ p. refl; removes = refl }; silent = λ s. refl; leaves = λ name t. refl }
quiet (Listed stream subject) h =
    record { between = record { brings = λ p. refl; removes = refl }; silent = λ s. refl; leaves = λ name t. refl }
quiet (Unlisted stream subject) h =
    record { between = record { brings = λ p. refl; removes = refl }; silent = λ s. refl; leaves = λ name t. refl }
quiet f h = (cc)

quiet_owed : (sum : Sum) (f : Fact) (name : List ℕ) → IsQuiet f → owed_by (sum_of sum (f ∷ [])) name ≡ owed_by sum name
quiet_owed sum f name q = by (stands name sum.parts.streams) refl
  where
    still : stands name (parts_after sum.parts f).streams ≡ stands name sum.parts.streams
    still = ap (stands name) (same_streams sum.parts f q.between) ∙ stands_after name f sum.parts.streams

    by : (b : Bool) → stands name sum.parts.streams ≡ b → owed_by (sum_of sum (f ∷ [])) name ≡ owed_by sum name
    by true here =
        let kept : List Made = filter (λ (t : Made). not (takes_off name f t)) (owed_by sum name) in
        found (owed_after sum (f ∷ [])) name (parts_after sum.parts f).streams (still ∙ here)
        ∙ owed_step sum f name here (still ∙ here)
        ∙ ap (λ l. kept ++ filter (is_of name) l) (none_made sum.parts.store_id f sum.parts.streams q.silent)
        ∙ append-nil kept
        ∙ filter_all (λ (t : Made). not (takes_off name f t)) (λ t. ap (λ b. not b) (q.leaves name t)) (owed_by sum name)
    by false absent =
        none_in name (parts_after sum.parts f).streams (owed_after sum (f ∷ [])) (still ∙ absent)
        ∙ sym (nothing_beside name sum.parts.streams sum.owed absent)

none_more : (sum : Sum) (name : List ℕ) → owed_by (sum_of sum []) name ≡ owed_by sum name
none_more sum name = by (stands name sum.parts.streams) refl
  where
    by : (b : Bool) → stands name sum.parts.streams ≡ b → owed_by (sum_of sum []) name ≡ owed_by sum name
    by true here =
        found (owed_after sum []) name sum.parts.streams here
        ∙ append-nil (filter (survives name sum.parts []) (owed_by sum name))
        ∙ filter_all (survives name sum.parts []) (λ (t : Made). here) (owed_by sum name)
    by false absent =
        none_in name sum.parts.streams (owed_after sum []) absent ∙ sym (nothing_beside name sum.parts.streams sum.owed absent)

pub setting_up_leaves : SettingUpLeavesWhatIsOwed
setting_up_leaves sum [] name h = none_more sum name
setting_up_leaves sum (f ∷ facts) name h =
    let both = and_parts (sets_up f) (list_all sets_up facts) h in
    ap (λ s. owed_by s name) (joined sum (f ∷ []) facts)
    ∙ setting_up_leaves (sum_of sum (f ∷ [])) facts name both.1
    ∙ quiet_owed sum f name (quiet f both.0)

-- ---- how a stream was set up

told_setup : (o : Option News) (s : Stream) → setup_of (told_one o s) ≡ setup_of s
told_setup None s = refl
told_setup (Some n) s = refl

same_setup : (f : Fact) (s : Stream) → carries f ≡ true → setup_of (stream_after f s) ≡ setup_of s
same_setup (Published id news time) s h = told_setup (tells (Published id news time) s) s
same_setup (Settled stream items) s h = refl
same_setup (Asked stream state time) s h =
    told_setup (tells (Asked stream state time) s) (changed_by (Asked stream state time) s)
    ∙ elim (is_named stream s) as (λ b. setup_of (if b then with_asked time s else s) ≡ setup_of s) [ true ↦ refl | false ↦ refl ]
same_setup f s h = (cc)

carries_between : (f : Fact) → carries f ≡ true → IsBetween f
carries_between (Published id news time) h = record { brings = λ p. refl; removes = refl }
carries_between (Settled stream items) h = record { brings = λ p. refl; removes = refl }
carries_between (Asked stream state time) h = record { brings = λ p. refl; removes = refl }
carries_between f h = (cc)

mapped_setup : (f : Fact) (o : Option Stream) → carries f ≡ true → option_map setup_of (option_map (stream_after f) o) ≡ option_map setup_of o
mapped_setup f None h = refl
mapped_setup f (Some s) h = ap (λ t. Some t) (same_setup f s h)

carried : (p : Parts) (f : Fact) (name : List ℕ) → carries f ≡ true
    → option_map setup_of (stream_named name (parts_after p f).streams) ≡ option_map setup_of (stream_named name p.streams)
carried p f name h =
    ap (λ l. option_map setup_of (stream_named name l)) (same_streams p f (carries_between f h))
    ∙ ap (option_map setup_of) (named_after f name p.streams)
    ∙ mapped_setup f (stream_named name p.streams) h

pub carrying_leaves : CarryingLeavesTheSetup
carrying_leaves sum [] name h = refl
carrying_leaves sum (f ∷ facts) name h =
    let both = and_parts (carries f) (list_all carries facts) h in
    carrying_leaves (sum_of sum (f ∷ [])) facts name both.1 ∙ carried sum.parts f name both.0
