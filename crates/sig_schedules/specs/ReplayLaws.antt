-- What holds of scripts, line by line.
use Rattle.std.specs.Prelude.{◌≡◌, ℕ, List, [], ◌∷◌, ◌++◌, ◌+◌, Option, Some, None, is_none, refl, if◌then◌else◌}
use Rattle.std.proofs.Common.{◌∙◌, ap, sym, append_assoc}
use Rattle.sig_command.specs.declared.stop.Stop.{Stop}
use Rattle.sig_law.specs.World.{World, new_world}
use Rattle.sig_schedules.specs.Replay.{played, script_stop, script_text, script_world}

-- a line that doesn't stop the script, and then others
pub text-goes : (n : ℕ) (w : World) (l : List ℕ) (ls : List (List ℕ)) → (played n w l).stop ≡ None
    → script_text n w (l ∷ ls) ≡ (played n w l).text ++ script_text (n + 1) (played n w l).world ls
text-goes n w l ls e = ap (λ (o : Option Stop). if is_none o then (played n w l).text ++ script_text (n + 1) (played n w l).world ls else []) e

pub stop-goes : (n : ℕ) (w : World) (l : List ℕ) (ls : List (List ℕ)) → (played n w l).stop ≡ None
    → script_stop n w (l ∷ ls) ≡ script_stop (n + 1) (played n w l).world ls
stop-goes n w l ls e = ap (λ (o : Option Stop). if is_none o then script_stop (n + 1) (played n w l).world ls else o) e

pub world-goes : (n : ℕ) (w : World) (l : List ℕ) (ls : List (List ℕ)) → (played n w l).stop ≡ None
    → script_world n w (l ∷ ls) ≡ script_world (n + 1) (played n w l).world ls
world-goes n w l ls e = ap (λ (o : Option Stop). if is_none o then script_world (n + 1) (played n w l).world ls else w) e

-- a line that stops the script
pub text-stops : (n : ℕ) (w : World) (l : List ℕ) (ls : List (List ℕ)) (s : Stop) → (played n w l).stop ≡ Some s → script_text n w (l ∷ ls) ≡ []
text-stops n w l ls s e = ap (λ (o : Option Stop). if is_none o then (played n w l).text ++ script_text (n + 1) (played n w l).world ls else []) e

pub stop-stops : (n : ℕ) (w : World) (l : List ℕ) (ls : List (List ℕ)) (s : Stop) → (played n w l).stop ≡ Some s → script_stop n w (l ∷ ls) ≡ Some s
stop-stops n w l ls s e = ap (λ (o : Option Stop). if is_none o then script_stop (n + 1) (played n w l).world ls else o) e

pub world-stops : (n : ℕ) (w : World) (l : List ℕ) (ls : List (List ℕ)) (s : Stop) → (played n w l).stop ≡ Some s → script_world n w (l ∷ ls) ≡ w
world-stops n w l ls s e = ap (λ (o : Option Stop). if is_none o then script_world (n + 1) (played n w l).world ls else w) e

-- more lines print more
pub text-grows : (n : ℕ) (w : World) (given more : List (List ℕ)) → (rest : List ℕ) × (script_text n w (given ++ more) ≡ script_text n w given ++ rest)
text-grows n w [] more = (script_text n w more, refl)
text-grows n w (l ∷ ls) more = by_stop (played n w l).stop refl (text-grows (n + 1) (played n w l).world ls more)
  where
    by_stop : (o : Option Stop) → (played n w l).stop ≡ o
        → (rest : List ℕ) × (script_text (n + 1) (played n w l).world (ls ++ more) ≡ script_text (n + 1) (played n w l).world ls ++ rest)
        → (rest : List ℕ) × (script_text n w (l ∷ (ls ++ more)) ≡ script_text n w (l ∷ ls) ++ rest)
    by_stop None e further = (
      further.0,
      text-goes n w l (ls ++ more) e ∙ ap (λ text. (played n w l).text ++ text) further.1
          ∙ sym (append_assoc (played n w l).text (script_text (n + 1) (played n w l).world ls) further.0)
          ∙ ap (λ text. text ++ further.0) (sym (text-goes n w l ls e)),
    )
    by_stop (Some s) e further = ([], text-stops n w l (ls ++ more) s e ∙ ap (λ text. text ++ []) (sym (text-stops n w l ls s e)))

-- what stopped the script stops it with more lines too
pub stop-stays : (n : ℕ) (w : World) (given more : List (List ℕ)) (s : Stop) → script_stop n w given ≡ Some s
    → (script_stop n w (given ++ more) ≡ Some s) × (script_text n w (given ++ more) ≡ script_text n w given)
stop-stays n w [] more s h = absurd (none_some s h)
  where
    none_some : (s : Stop) → None ≡ Some s → ⊥
    none_some s h = cc
stop-stays n w (l ∷ ls) more s h = by_stop (played n w l).stop refl (λ later. stop-stays (n + 1) (played n w l).world ls more s later)
  where
    by_stop : (o : Option Stop) → (played n w l).stop ≡ o
        → (script_stop (n + 1) (played n w l).world ls ≡ Some s
        → (script_stop (n + 1) (played n w l).world (ls ++ more) ≡ Some s)
        × (script_text (n + 1) (played n w l).world (ls ++ more) ≡ script_text (n + 1) (played n w l).world ls))
        → (script_stop n w (l ∷ (ls ++ more)) ≡ Some s) × (script_text n w (l ∷ (ls ++ more)) ≡ script_text n w (l ∷ ls))
    by_stop None e on =
        let further = on (sym (stop-goes n w l ls e) ∙ h) in (
          stop-goes n w l (ls ++ more) e ∙ further.0,
          text-goes n w l (ls ++ more) e ∙ ap (λ text. (played n w l).text ++ text) further.1 ∙ sym (text-goes n w l ls e),
        )
    by_stop (Some t) e on = (
      stop-stops n w l (ls ++ more) t e ∙ sym (stop-stops n w l ls t e) ∙ h,
      text-stops n w l (ls ++ more) t e ∙ sym (text-stops n w l ls t e),
    )

-- the two laws of a command
pub script_grows : (given more : List (List ℕ)) → (rest : List ℕ) × (script_text 1 new_world (given ++ more) ≡ script_text 1 new_world given ++ rest)
script_grows given more = text-grows 1 new_world given more

pub script_stays : (given more : List (List ℕ)) (s : Stop) → script_stop 1 new_world given ≡ Some s
    → (script_stop 1 new_world (given ++ more) ≡ Some s) × (script_text 1 new_world (given ++ more) ≡ script_text 1 new_world given)
script_stays given more s h = stop-stays 1 new_world given more s h
