-- Steps that are put one after another.
use Rattle.std.proofs.Common.{◌≡◌, ◌∙◌, ap, sym, refl, ℕ, ◌+◌, ◌<◌, List, [], ◌∷◌, ◌++◌, length, get_or, take, filter_map, Option, Some, None, append_assoc, append-nil}
use Rattle.std.specs.List.{cons_option}
use Rattle.std.specs.Prelude.{option_to_list}
use Rattle.std.proofs.lemmas.List.{take_more}
use Rattle.sig_declared.specs.declared.declared.Declared.{Declared}
use Rattle.sig_manager.specs.Planning.{delete_for, deletes_behind, deletes_of}
use Rattle.sig_manager.specs.declared.listed.Listed.{Listed}
use Rattle.sig_manager.specs.declared.step.Step.{Step}

one_or_none : {Y : Type 0} (o : Option Y) (ys : List Y) → cons_option o ys ≡ option_to_list o ++ ys
one_or_none None ys = refl
one_or_none (Some y) ys = refl

cons_option-append : {Y : Type 0} (o : Option Y) (ys zs : List Y) → cons_option o ys ++ zs ≡ cons_option o (ys ++ zs)
cons_option-append None ys zs = refl
cons_option-append (Some y) ys zs = refl

-- ---- what each of a list gives

filter_map-push : {X Y : Type 0} (h : X → Option Y) (xs : List X) (x : X) → filter_map h (xs ++ x ∷ []) ≡ filter_map h xs ++ option_to_list (h x)
filter_map-push h [] x = one_or_none (h x) [] ∙ append-nil (option_to_list (h x))
filter_map-push {X} {Y} h (y ∷ xs) x =
    ap (λ (l : List Y). cons_option (h y) l) (filter_map-push h xs x)
    ∙ sym (cons_option-append (h y) (filter_map h xs) (option_to_list (h x)))

-- with what the next one gives
pub one_more : {X Y : Type 0} (h : X → Option Y) (xs : List X) (i : ℕ) (x : X) (before ys : List Y) → i < length xs → x ≡ get_or xs i x
    → ys ≡ before ++ filter_map h (take i xs) → ys ++ option_to_list (h x) ≡ before ++ filter_map h (take (i + 1) xs)
one_more {X} {Y} h xs i x before ys below is had =
    ap (λ (l : List Y). l ++ option_to_list (h x)) had
    ∙ append_assoc before (filter_map h (take i xs)) (option_to_list (h x))
    ∙ ap (λ (l : List Y). before ++ l) (sym (filter_map-push h (take i xs) x)
    ∙ ap (λ (y : X). filter_map h (take i xs ++ y ∷ [])) is
    ∙ sym (ap (filter_map h) (take_more xs i x below)))

-- ---- what is deleted

deletes-push : (declared : List Declared) (before ls : List Listed) (l : Listed)
    → deletes_behind declared before (ls ++ l ∷ []) ≡ deletes_behind declared before ls ++ option_to_list (delete_for declared (before ++ ls) l)
deletes-push declared before [] l =
    one_or_none (delete_for declared before l) [] ∙ append-nil (option_to_list (delete_for declared before l))
    ∙ ap (λ (b : List Listed). option_to_list (delete_for declared b l)) (sym (append-nil before))
deletes-push declared before (m ∷ ls) l =
    ap (λ (ss : List Step). cons_option (delete_for declared before m) ss)
    (deletes-push declared (before ++ m ∷ []) ls l
    ∙ ap (λ (b : List Listed). deletes_behind declared (before ++ m ∷ []) ls ++ option_to_list (delete_for declared b l)) (append_assoc before (m ∷ []) ls))
    ∙ sym (cons_option-append (delete_for declared before m) (deletes_behind declared (before ++ m ∷ []) ls) (option_to_list (delete_for declared (before ++ m ∷ ls) l)))

pub one_more_deleted : (declared : List Declared) (ls : List Listed) (i : ℕ) (l : Listed) (before ys : List Step) → i < length ls → l ≡ get_or ls i l
    → ys ≡ before ++ deletes_of declared (take i ls)
    → ys ++ option_to_list (delete_for declared (take i ls) l) ≡ before ++ deletes_of declared (take (i + 1) ls)
one_more_deleted declared ls i l before ys below is had =
    ap (λ (ss : List Step). ss ++ option_to_list (delete_for declared (take i ls) l)) had
    ∙ append_assoc before (deletes_of declared (take i ls)) (option_to_list (delete_for declared (take i ls) l))
    ∙ ap (λ (ss : List Step). before ++ ss) (sym (deletes-push declared [] (take i ls) l)
    ∙ ap (λ (m : Listed). deletes_of declared (take i ls ++ m ∷ [])) is
    ∙ sym (ap (deletes_of declared) (take_more ls i l below)))
