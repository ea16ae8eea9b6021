-- What is known of the members of a payload.
use Rattle.std.proofs.Common.{◌≡◌, ◌↔◌, ℕ, List, [], ◌∷◌, length, map, Bool, true, false, not, cond, Some, is_some, ◌||◌, IsTrue, refl, arith}
use Rattle.std.specs.Prelude.{String}
use Rattle.std.specs.List.{list_any}
use Rattle.std.specs.Str.{bytes_eq}
use Rattle.std.specs.declared.alloc.Global.{Global}
use Rattle.serde_json.specs.View.{members_view}
use Rattle.serde_json.specs.declared.value.Value.{Value}
use Rattle.sig_json.specs.Listed.{listed}
use Rattle.sig_json.specs.Members.{has_members}

-- a text is in a closed list exactly where it stands for a value
pub any_is_listed : {T : Type 0} (text_of : T → List ℕ) (xs : List T) (t : List ℕ) → list_any (bytes_eq t) (map text_of xs) ≡ is_some (listed text_of xs t)
unfolding listed
any_is_listed text_of [] t = refl
any_is_listed text_of (x ∷ xs) t =
    elim (bytes_eq t (text_of x)) as (λ b. b || list_any (bytes_eq t) (map text_of xs) ≡ is_some (cond b (Some x) (listed text_of xs t))) [
      | true ↦ refl
      | false ↦ any_is_listed text_of xs t
    ]

-- an object has a member exactly where its map isn't empty
pub has_members_unless : (es : List (String Global × Value)) (b : Bool) → (IsTrue b ↔ (length es ≡ 0)) → not b ≡ has_members (members_view es)
has_members_unless [] true h = refl
has_members_unless [] false h = grind (arith, h)
has_members_unless (e ∷ es) true h = grind (arith, h)
has_members_unless (e ∷ es) false h = refl
