-- What a crash leaves of a journal's file while a record is added.
use Rattle.std.proofs.Common.{◌≡◌, ◌≢◌, ◌⊎◌, inl, inr, ℕ, ◌+◌, ◌-◌, ◌≤◌, ◌<◌, ◌^◌, min, List, [], ◌∷◌, ◌++◌, length, take, drop, replicate, false, ◌==◌, nat_le, sym, ◌∙◌, ap, subst, arith, append_assoc, length-append, length-drop, take-append-drop}
use Rattle.std.proofs.lemmas.Bool.{cases_eq}
use Rattle.std.proofs.lemmas.Bool.Decides.{nat_tests}
use Rattle.std.proofs.lemmas.List.{take_at, append-nil}
use Rattle.std.proofs.Math.Seq.{drop-append-add}
use Rattle.sig_outside.specs.Disk.{Torn, with_bytes}
use Rattle.sig_json.specs.declared.limits.TheConstants.{LAST_NUMBER}
use Rattle.sig_journal.specs.declared.kind.Kind.{Kind}
use Rattle.sig_journal.specs.declared.layout.TheConstants.{GATE_OPEN}
use Rattle.sig_journal.specs.Layout.{Content, end_of, framed_bytes}
use Rattle.sig_journal.specs.Added.{Shows}
use Rattle.sig_journal.specs.Store.{add_record}
use Rattle.sig_journal.proofs.Fronts.{Whole, closed_again, gate_again, opened_again}

-- a write after the first part leaves that part
pub written_behind : (at : ℕ) (first rest bytes : List ℕ) → at ≡ length first → with_bytes at bytes (first ++ rest) ≡ first ++ bytes ++ drop (length bytes) rest
written_behind at first rest bytes is =
    let whole = first ++ rest in
    let no_gap : replicate {A = ℕ} (at - length whole) 0 ≡ [] = ap (λ (n : ℕ). replicate {A = ℕ} n 0) none in
    let back : drop (at + length bytes) whole ≡ drop (length bytes) rest = ap (λ (n : ℕ). drop (n + length bytes) whole) is ∙ drop-append-add first rest (length bytes) in
    (λ i. take_at first rest at (sym is) i ++ no_gap i ++ bytes ++ back i)
    ∙ ap (λ (l : List ℕ). l ++ bytes ++ drop (length bytes) rest) (append-nil first)
  where
    none : at - length (first ++ rest) ≡ 0
    none = omega (arith, length-append first rest, is)

-- and so does a torn one
pub torn_behind : (at n : ℕ) (first rest image : List ℕ) → at ≡ length first → Torn at n (first ++ rest) image → image ≡ first ++ drop at image
torn_behind at n first rest image is torn =
    let here : min at (length (first ++ rest)) ≡ at = omega (arith, length-append first rest, is) in
    let same : take at image ≡ first = ap (λ (k : ℕ). take k image) (sym here) ∙ torn.before ∙ take_at first rest at (sym is) in
    sym (take-append-drop at image) ∙ ap (λ (l : List ℕ). l ++ drop at image) same

first_other : (rest image : List ℕ) → drop 1 image ≡ rest → 0 < length image → (byte : ℕ) × (image ≡ byte ∷ rest)
first_other rest [] is some = absurd (omega arith)
first_other rest (byte ∷ image) is some = (byte, ap (λ (l : List ℕ). byte ∷ l) is)

-- a torn write of one byte leaves all others
pub torn_one : (at byte : ℕ) (first rest image : List ℕ) → at ≡ length first → Torn at 1 (first ++ byte ∷ rest) image → (other : ℕ) × (image ≡ first ++ other ∷ rest)
torn_one at byte first rest image is torn =
    let kept : image ≡ first ++ drop at image = torn_behind at 1 first (byte ∷ rest) image is torn in
    let after : drop 1 (drop at image) ≡ rest =
    sym (drop-append-add first (drop at image) 1) ∙ ap (λ (l : List ℕ). drop (length first + 1) l) (sym kept) ∙ ap (λ (n : ℕ). drop (n + 1) image) (sym is)
    ∙ torn.after ∙ ap (λ (n : ℕ). drop (n + 1) (first ++ byte ∷ rest)) is ∙ drop-append-add first (byte ∷ rest) 1 in
    let some : 0 < length (drop at image) = omega (arith, length-drop at image, torn.no_shorter, length-append first (byte ∷ rest), is) in
    let found = first_other rest (drop at image) after some in
    (found.0, kept ∙ ap (λ (l : List ℕ). first ++ l) found.1)

-- a journal's file, in whose place of the last gate a record of this payload is added; end is the place after that gate
module _ (kind : Kind) (bytes : List ℕ) (content : Content) (w : Whole kind bytes content) (payload : List ℕ) (fits : length payload < 2 ^ 32) (end : ℕ) (ends : end ≡ end_of content)
    (room : end + 5 + length payload ≤ LAST_NUMBER) where
  -- the file with the record after a gate
  pub gated : ℕ → List ℕ
  gated gate = w.front ++ gate ∷ (framed_bytes payload ++ drop (length (framed_bytes payload)) w.rest)

  -- the bytes up to its last gate
  closed_front : List ℕ
  closed_front = w.front ++ w.gate ∷ []

  length-closed : length (w.front ++ w.gate ∷ []) ≡ end
  length-closed = omega (arith, length-append w.front (w.gate ∷ []), w.size, ends)

  parts_closed : bytes ≡ (w.front ++ w.gate ∷ []) ++ w.rest
  parts_closed = w.parts ∙ sym (append_assoc w.front (w.gate ∷ []) w.rest)

  shows_closed : (gate : ℕ) (rest : List ℕ) → (gate == GATE_OPEN) ≡ false → Shows kind bytes (w.front ++ gate ∷ rest) content
  shows_closed gate rest shut = record { begins = gate_again kind bytes content w gate rest; holds = closed_again kind bytes content w gate rest shut }

  shows_open : (rest : List ℕ) → Shows kind bytes (w.front ++ GATE_OPEN ∷ (framed_bytes payload ++ rest)) (add_record content payload)
  shows_open rest = record {
    begins = gate_again kind bytes content w GATE_OPEN (framed_bytes payload ++ rest);
    holds = opened_again kind bytes content w payload rest fits (far (length w.front + 5 + length payload) (omega (arith, w.size, ends, room)));
  }
    where
      far : (place : ℕ) → place < LAST_NUMBER → nat_le LAST_NUMBER place ≡ false
      far place less = grind (arith, nat_tests)

  -- the file shows what it showed, whatever was written after its last gate
  pub behind_written : (written : List ℕ) → Shows kind bytes (with_bytes end written bytes) content
  behind_written written =
      let is : with_bytes end written bytes ≡ w.front ++ w.gate ∷ (written ++ drop (length written) w.rest) =
      ap (with_bytes end written) parts_closed ∙ written_behind end (w.front ++ w.gate ∷ []) w.rest written (sym length-closed)
      ∙ append_assoc (w.front ++ w.gate ∷ []) written (drop (length written) w.rest)
      ∙ append_assoc w.front (w.gate ∷ []) (written ++ drop (length written) w.rest) in
      subst (λ (l : List ℕ). Shows kind bytes l content) (sym is) (shows_closed w.gate (written ++ drop (length written) w.rest) w.closed)

  pub behind_torn : (n : ℕ) (image : List ℕ) → Torn end n bytes image → Shows kind bytes image content
  behind_torn n image torn =
      let is : image ≡ w.front ++ w.gate ∷ drop end image =
      torn_behind end n (w.front ++ w.gate ∷ []) w.rest image (sym length-closed) (subst (λ (l : List ℕ). Torn end n l image) parts_closed torn)
      ∙ append_assoc w.front (w.gate ∷ []) (drop end image) in
      subst (λ (l : List ℕ). Shows kind bytes l content) (sym is) (shows_closed w.gate (drop end image) w.closed)

  staged_is : with_bytes end (framed_bytes payload) bytes ≡ gated w.gate
  unfolding gated
  staged_is =
      ap (with_bytes end (framed_bytes payload)) parts_closed ∙ written_behind end (w.front ++ w.gate ∷ []) w.rest (framed_bytes payload) (sym length-closed)
      ∙ append_assoc (w.front ++ w.gate ∷ []) (framed_bytes payload) (drop (length (framed_bytes payload)) w.rest)
      ∙ append_assoc w.front (w.gate ∷ []) (framed_bytes payload ++ drop (length (framed_bytes payload)) w.rest)

  before_end : end - 1 ≡ length w.front
  before_end = omega (arith, w.size, ends)

  -- with any byte in the gate's place it shows what it showed, or that with the record
  pub gate_shows : (gate : ℕ) → (Shows kind bytes (gated gate) content) ⊎ (Shows kind bytes (gated gate) (add_record content payload))
  unfolding gated
  gate_shows gate = elim (cases_eq gate GATE_OPEN) [
    | inl is ↦ inr (subst (λ (g : ℕ). Shows kind bytes (w.front ++ g ∷ (framed_bytes payload ++ drop (length (framed_bytes payload)) w.rest)) (add_record content payload)) (sym is) (shows_open (drop (length (framed_bytes payload)) w.rest)))
    | inr not ↦ inl (shows_closed gate (framed_bytes payload ++ drop (length (framed_bytes payload)) w.rest) (not_open gate not))
  ]
    where
      not_open : (g : ℕ) → g ≢ GATE_OPEN → (g == GATE_OPEN) ≡ false
      not_open g not = grind (arith, nat_tests)

  pub gate_torn : (image : List ℕ) → Torn (end - 1) 1 (with_bytes end (framed_bytes payload) bytes) image
      → (Shows kind bytes image content) ⊎ (Shows kind bytes image (add_record content payload))
  unfolding gated
  gate_torn image torn =
      let found = torn_one (end - 1) w.gate w.front (framed_bytes payload ++ drop (length (framed_bytes payload)) w.rest) image before_end
      (subst (λ (l : List ℕ). Torn (end - 1) 1 l image) staged_is torn) in
      subst (λ (l : List ℕ). (Shows kind bytes l content) ⊎ (Shows kind bytes l (add_record content payload))) (sym found.1) (gate_shows found.0)

  written_gate : (gate : ℕ) → with_bytes (end - 1) (gate ∷ []) (with_bytes end (framed_bytes payload) bytes) ≡ gated gate
  unfolding gated
  written_gate gate =
      ap (with_bytes (end - 1) (gate ∷ [])) staged_is
      ∙ written_behind (end - 1) w.front (w.gate ∷ (framed_bytes payload ++ drop (length (framed_bytes payload)) w.rest)) (gate ∷ []) before_end
      ∙ append_assoc w.front (gate ∷ []) (framed_bytes payload ++ drop (length (framed_bytes payload)) w.rest)

  pub gate_written : (gate : ℕ) → gate ≡ GATE_OPEN → Shows kind bytes (with_bytes (end - 1) (gate ∷ []) (with_bytes end (framed_bytes payload) bytes)) (add_record content payload)
  unfolding gated
  gate_written gate is =
      subst (λ (l : List ℕ). Shows kind bytes l (add_record content payload)) (sym (written_gate gate))
      (subst (λ (g : ℕ). Shows kind bytes (w.front ++ g ∷ (framed_bytes payload ++ drop (length (framed_bytes payload)) w.rest)) (add_record content payload)) (sym is) (shows_open (drop (length (framed_bytes payload)) w.rest)))

  pub gate_left : (gate : ℕ) → (gate == GATE_OPEN) ≡ false → Shows kind bytes (with_bytes (end - 1) (gate ∷ []) (with_bytes end (framed_bytes payload) bytes)) content
  unfolding gated
  gate_left gate shut =
      subst (λ (l : List ℕ). Shows kind bytes l content) (sym (written_gate gate)) (shows_closed gate (framed_bytes payload ++ drop (length (framed_bytes payload)) w.rest) shut)
