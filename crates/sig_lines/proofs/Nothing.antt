-- A source whose lines were all given has nothing left.
use Rattle.std.proofs.Common.{◌≡◌, ◌++◌, ◌∷◌, ◌∙◌, [], ap, rules, subst, ℕ, List}
use Rattle.std.specs.Prelude.{Option, Some, None, IfSome, IsSome}
use Rattle.sig_outside.specs.Lines.{Gives}
use Rattle.sig_outside.specs.Reading.{Reading}
use Rattle.sig_outside.specs.declared.line.Line.{Line}
use Rattle.sig_outside.specs.declared.line.Line.TheVariants.{End}

second_is_nil : (xs ys : List ℕ) → xs ++ ys ≡ [] → ys ≡ []
second_is_nil [] ys is = is
second_is_nil (x ∷ xs) ys is = search rules

end_leaves_nothing : (room : ℕ) (old new : Reading) (left : List ℕ) (after : Option (List ℕ)) → Gives room End old new left after → after ≡ Some []
end_leaves_nothing room old new left after gives = gives.took.told ∙ ap Some (second_is_nil new.kept gives.took.after gives.first.1)

pub nothing_left : (room : ℕ) (line : Line) (old new : Reading) (before after : Option (List ℕ)) → line ≡ End
    → IfSome before (λ left. Gives room line old new left after) → IsSome before → after ≡ Some []
nothing_left room line old new None after is gives told = search rules
nothing_left room line old new (Some left) after is gives told = end_leaves_nothing room old new left after (subst (λ l. Gives room l old new left after) is gives)
