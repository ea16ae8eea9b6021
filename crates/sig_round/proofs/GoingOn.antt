-- A round within its tokens: however it goes on with those that are left, it is a round of all of them.
use Rattle.std.proofs.Common.{◌≡◌, ◌+◌, ◌<◌, ◌≤◌, ℕ, suc, List, [], ◌∷◌, length, get_or, drop, Option, Result, Ok, Err, sym, ap, ◌∙◌, subst, add-one, drop-cons}
use Rattle.std.specs.Prelude.{⊤}
use Rattle.std.proofs.lemmas.List.{drop_all}
use Rattle.sig_push.specs.declared.fault.PushFault.{PushFault}
use Rattle.sig_terms.specs.declared.rules.Rules.{Rules}
use Rattle.sig_terms.specs.declared.token.Token.{Token}
use Rattle.sig_txnode.specs.Told.{TakerTold}
use Rattle.sig_txnode.specs.declared.turn.Turn.{Turn}
use Rattle.sig_round.specs.Delivered.{Delivered}
use Rattle.sig_links.specs.Views.{SideView}
use Rattle.sig_round.specs.Turns.{Asker}
use Rattle.sig_round.proofs.MorePushes.{delivered_err, delivered_none, delivered_on}

pub record GoesOn (rules : Rules) (by : Asker) (tokens rest : List Token) (before now : SideView) (turns turns' : List Turn) (told told' : Option TakerTold) : Type 0 where
  pub whole : (after : SideView) (turns'' : List Turn) (told'' : Option TakerTold) (end : Result ⊤ PushFault)
      → Delivered rules by rest now after turns' turns'' told' told'' end → Delivered rules by tokens before after turns turns'' told told'' end

-- the same link at the same time
same_asker : (link link' now now' : ℕ) → link ≡ link' → now ≡ now' → ◌≡◌ {A = Asker} (record { link = link; now = now }) (record { link = link'; now = now' })
same_asker link link' now now' e f = λ k. record { link = e k; now = f k }

next_token : (tokens : List Token) (i : ℕ) (t : Token) → i < length tokens → t ≡ get_or tokens i t → drop i tokens ≡ t ∷ drop (i + 1) tokens
next_token tokens i t h e = drop-cons tokens i t h ∙ ap (λ (q : Token). q ∷ drop (suc i) tokens) (sym e) ∙ ap (λ n. t ∷ drop n tokens) (sym (add-one i))

at_token : (rules : Rules) (by : Asker) (tokens : List Token) (i : ℕ) (t : Token) (before now : SideView) (x y : List Turn) (k l : Option TakerTold)
    → i < length tokens → t ≡ get_or tokens i t → GoesOn rules by tokens (drop i tokens) before now x y k l → GoesOn rules by tokens (t ∷ drop (i + 1) tokens) before now x y k l
at_token rules by tokens i t before now x y k l h e g = subst (λ (rest : List Token). GoesOn rules by tokens rest before now x y k l) (next_token tokens i t h e) g

as_asker : (rules : Rules) (t : Token) (link link' time time' : ℕ) (now next : SideView) (y z : List Turn) (l m : Option TakerTold) (end : Result ⊤ PushFault)
    → link ≡ link' → time ≡ time' → Delivered rules (record { link = link; now = time }) (t ∷ []) now next y z l m end → Delivered rules (record { link = link'; now = time' }) (t ∷ []) now next y z l m end
as_asker rules t link link' time time' now next y z l m end e f d =
    subst (λ (by : Asker). Delivered rules by (t ∷ []) now next y z l m end) (same_asker link link' time time' e f) d

-- after a token that was delivered
pub goes_next : (rules : Rules) (link link' time time' : ℕ) (tokens : List Token) (i : ℕ) (t : Token) (before now next : SideView) (x y z : List Turn) (k l m : Option TakerTold) (u : ⊤)
    → i < length tokens → t ≡ get_or tokens i t → link ≡ link' → time ≡ time'
    → GoesOn rules (record { link = link'; now = time' }) tokens (drop i tokens) before now x y k l
    → Delivered rules (record { link = link; now = time }) (t ∷ []) now next y z l m (Ok u)
    → GoesOn rules (record { link = link'; now = time' }) tokens (drop (i + 1) tokens) before next x z k m
goes_next rules link link' time time' tokens i t before now next x y z k l m u h is e f g d =
    let by : Asker = record { link = link'; now = time' } in
    let at = at_token rules by tokens i t before now x y k l h is g in
    record {
      whole = λ after turns'' told'' end more. at.whole after turns'' told'' end
          (delivered_on rules by t (drop (i + 1) tokens) now next after y z turns'' l m told'' u end (as_asker rules t link link' time time' now next y z l m (Ok u) e f d) more);
    }

-- at a token that ends the round
pub goes_no_further : (rules : Rules) (link link' time time' : ℕ) (tokens : List Token) (i : ℕ) (t : Token) (before now after : SideView) (x y z : List Turn) (k l m : Option TakerTold) (fault : PushFault)
    → i < length tokens → t ≡ get_or tokens i t → link ≡ link' → time ≡ time'
    → GoesOn rules (record { link = link'; now = time' }) tokens (drop i tokens) before now x y k l
    → Delivered rules (record { link = link; now = time }) (t ∷ []) now after y z l m (Err fault)
    → Delivered rules (record { link = link'; now = time' }) tokens before after x z k m (Err fault)
goes_no_further rules link link' time time' tokens i t before now after x y z k l m fault h is e f g d =
    let by : Asker = record { link = link'; now = time' } in
    (at_token rules by tokens i t before now x y k l h is g).whole after z m (Err fault)
    (delivered_err rules by t (drop (i + 1) tokens) now after y z l m fault (as_asker rules t link link' time time' now after y z l m (Err fault) e f d))

-- after the last token
pub goes_to_the_end : (rules : Rules) (by : Asker) (tokens : List Token) (i : ℕ) (before now : SideView) (x y : List Turn) (k l : Option TakerTold) (u : ⊤)
    → length tokens ≤ i → GoesOn rules by tokens (drop i tokens) before now x y k l → Delivered rules by tokens before now x y k l (Ok u)
goes_to_the_end rules by tokens i before now x y k l u h g =
    g.whole now y l (Ok u) (subst (λ (rest : List Token). Delivered rules by rest now now y y l l (Ok u)) (sym (drop_all i tokens h)) (delivered_none rules by now y l u))
