-- How a link ends after the exchanges that were answered.
use Rattle.std.proofs.Common.{◌≡◌, ℕ, ◌+◌, ◌<◌, ◌≤◌, List, [], ◌∷◌, ◌++◌, Some, None, false, refl, sym, ap, subst, ◌∙◌, arith, length-append}
use Rattle.std.proofs.lemmas.List.Elements.{All-push}
use Rattle.sig_json.specs.declared.limits.TheConstants.{REQUESTS_PER_LINK}
use Rattle.sig_links.specs.Views.{SideView}
use Rattle.sig_serving.specs.Line.{Line}
use Rattle.sig_serving.specs.declared.link_end.LinkEnd.{LinkEnd}
use Rattle.sig_serving.specs.declared.link_end.LinkEnd.TheVariants.{End, Spent, Closed, Http, Sent, Memory}
use Rattle.sig_link.specs.Exchange.{Exchange, GoesOn}
use Rattle.sig_link.specs.Meaning.{Grows, Meaning}
use Rattle.sig_link.specs.Moment.{Moment, desk_of, moment}
use Rattle.sig_link.specs.Serving.{Answered, Cut, Exchanges, Passes, PassesBy, RunsOut, Serves, Standing}
use Rattle.sig_link.proofs.ChainLemmas.{exchanges_none, exchanges_more}

module _ {Rules Call Turn Told : Type 0} (m : Meaning Rules Call Turn Told) (rules : Rules) where
  module _ (link : ℕ) where
    -- nothing was answered yet
    standing_none : Grows m.Grew → (now : Moment Turn Told) → Standing m rules link 0 now now
    standing_none grows now = record { answered = []; counted = refl; stay = λ k d h. absurd (omega arith); exchanges = exchanges_none m rules link grows now }

    pub standing_start : Grows m.Grew → (count : ℕ) (now : Moment Turn Told) → count ≡ 0 → Standing m rules link count now now
    standing_start grows count now none = subst (λ (n : ℕ). Standing m rules link n now now) (sym none) (standing_none grows now)

    goes_on : (count : ℕ) (a b : Moment Turn Told) (s : Standing m rules link count a b) → count < REQUESTS_PER_LINK → GoesOn s.answered
    goes_on count a b s h = (subst (λ n. n < REQUESTS_PER_LINK) (sym s.counted) h, s.stay)

    more : Grows m.Grew → (count : ℕ) (a b c : Moment Turn Told) (s : Standing m rules link count a b) (e : Exchange Turn) → Answered m rules link count e false b c
        → Exchanges m rules link (s.answered ++ e ∷ []) a c
    more grows count a b c s e h =
        exchanges_more m rules link grows s.answered e a b c s.exchanges (subst (λ n. Answered m rules link n e false b c) (sym s.counted) h)

    -- a pass after which the link goes on
    standing_by : Grows m.Grew → (count : ℕ) (a b c : Moment Turn Told) → Standing m rules link count a b → PassesBy m rules link count None b c
        → Standing m rules link (count + 1) a c
    standing_by grows count a b c s h = record {
      answered = s.answered ++ h.0 ∷ [];
      counted = length-append s.answered (h.0 ∷ []) ∙ ap (λ n. n + 1) s.counted;
      stay = All-push (λ e. e.request.close ≡ false) s.answered h.0 s.stay h.2;
      exchanges = more grows count a b c s h.0 h.1;
    }

    -- a pass after which it ends
    serves_by : Grows m.Grew → (count : ℕ) (end : LinkEnd) (a b c : Moment Turn Told) → Standing m rules link count a b → count < REQUESTS_PER_LINK
        → PassesBy m rules link count (Some end) b c → Serves m rules link end a c
    serves_by grows count End a b c s few h =
        record { answered = s.answered; between = b; exchanges = s.exchanges; ends = (goes_on count a b s few, h) }
    serves_by grows count Spent a b c s few h = absurd h
    serves_by grows count Closed a b c s few h =
        record { answered = s.answered ++ h.0 ∷ []; between = c; exchanges = more grows count a b c s h.0 h.1; ends = ((s.answered, h.0, refl, goes_on count a b s few, h.2), refl) }
    serves_by grows count (Http fault) a b c s few h =
        record { answered = s.answered; between = b; exchanges = s.exchanges; ends = (goes_on count a b s few, h) }
    serves_by grows count (Sent fault) a b c s few h =
        record { answered = s.answered; between = b; exchanges = s.exchanges; ends = (goes_on count a b s few, h.0, (h.1.0, subst (λ n. Cut m rules link n h.1.0 b c) (sym s.counted) h.1.1)) }
    serves_by grows count Memory a b c s few h =
        record { answered = s.answered; between = b; exchanges = s.exchanges; ends = (goes_on count a b s few, subst (λ n. RunsOut m rules link n b c) (sym s.counted) h) }

    -- as many were answered as a link may have
    pub serves_spent : (count : ℕ) (a b : Moment Turn Told) → Standing m rules link count a b → REQUESTS_PER_LINK ≤ count → count ≤ REQUESTS_PER_LINK
        → Serves m rules link Spent a b
    serves_spent count a b s many few =
        let all : count ≡ REQUESTS_PER_LINK = omega arith in
        record { answered = s.answered; between = b; exchanges = s.exchanges; ends = (s.counted ∙ all, s.stay, refl) }

  -- ---- with the number of the link, and how many were answered, as they stand later

  pub standing_more : Grows m.Grew → (link link' count count' : ℕ) (a b c : Moment Turn Told) → Standing m rules link count a b → link' ≡ link → count' ≡ count
      → Passes m rules link' count None b c → Standing m rules link (count' + 1) a c
  standing_more grows link link' count count' a b c s same counts h =
      let passes : Passes m rules link count None b c = subst (λ (l : ℕ). Passes m rules l count None b c) same h in
      subst (λ (n : ℕ). Standing m rules link (n + 1) a c) (sym counts) (standing_by link grows count a b c s passes.comes)

  pub serves_with : Grows m.Grew → (link link' count : ℕ) (end : LinkEnd) (a b c : Moment Turn Told) → Standing m rules link count a b → link' ≡ link → count < REQUESTS_PER_LINK
      → Passes m rules link' count (Some end) b c → Serves m rules link end a c
  serves_with grows link link' count end a b c s same few h =
      let passes : Passes m rules link count (Some end) b c = subst (λ (l : ℕ). Passes m rules l count (Some end) b c) same h in
      serves_by link grows count end a b c s few passes.comes

  -- from the first byte on, with no turn at first
  pub serves_first : (link link' : ℕ) (end : LinkEnd) (kept0 kept : List ℕ) (turns0 turns1 turns2 : List Turn) (line line' : Line) (side side' : SideView) (told told' : Told)
      → link' ≡ link → kept0 ≡ [] → turns0 ≡ [] → turns2 ≡ turns1
      → Serves m rules link' end (moment kept0 line (desk_of side told turns0)) (moment kept line' (desk_of side' told' turns1))
      → (kept' : List ℕ) × Serves m rules link end (moment [] line (desk_of side told [])) (moment kept' line' (desk_of side' told' turns2))
  serves_first link link' end kept0 kept turns0 turns1 turns2 line line' side side' told told' number none empty same h =
      let first : Serves m rules link end (moment kept0 line (desk_of side told turns0)) (moment kept line' (desk_of side' told' turns1)) =
      subst (λ (n : ℕ). Serves m rules n end (moment kept0 line (desk_of side told turns0)) (moment kept line' (desk_of side' told' turns1))) number h in
      let one : Serves m rules link end (moment [] line (desk_of side told turns0)) (moment kept line' (desk_of side' told' turns1)) =
      subst (λ (k : List ℕ). Serves m rules link end (moment k line (desk_of side told turns0)) (moment kept line' (desk_of side' told' turns1))) none first in
      let two : Serves m rules link end (moment [] line (desk_of side told [])) (moment kept line' (desk_of side' told' turns1)) =
      subst (λ (ts : List Turn). Serves m rules link end (moment [] line (desk_of side told ts)) (moment kept line' (desk_of side' told' turns1))) empty one in
      (kept, subst (λ (ts : List Turn). Serves m rules link end (moment [] line (desk_of side told [])) (moment kept line' (desk_of side' told' ts))) (sym same) two)
