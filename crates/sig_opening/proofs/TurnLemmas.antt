-- A store that one call wrote to, and a node that follows.
use Rattle.std.proofs.Common.{◌≡◌, ◌∙◌, Bool, true, false, ap}
use Rattle.sig_journal.specs.Appended.{WritesOne}
use Rattle.sig_journal.specs.Journal.{Open}
use Rattle.sig_journal.specs.Store.{pick}

-- whether its first and its second file are told
abbrev pub both_told : {D : Type 0} → (D → Bool) → Bool → D → D → Bool × Bool
both_told told in_b written other = (told (pick in_b written other), told (pick in_b other written))

told_still : {D : Type 0} (told : D → Bool) (in_b : Bool) (written written' other other' : D) → told written' ≡ told written → other' ≡ other → both_told told in_b written' other' ≡ both_told told in_b written other
told_still told true written written' other other' same stays = cc
told_still told false written written' other other' same stays = cc

-- that the files are told stays, where the file in force alone is written
pub files_stay : {D : Type 0} (told : D → Bool) (old new : Open D) → WritesOne told old new → both_told told new.in_b new.written new.other ≡ both_told told old.in_b old.written old.other
files_stay told old new h =
    ap (λ (b : Bool). both_told told b new.written new.other) h.in_b ∙ told_still told old.in_b old.written new.written old.other new.other h.told_same h.other
