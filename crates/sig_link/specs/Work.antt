-- What a link came to so far, from one call to another.
use Rattle.std.specs.Prelude.{◌≡◌, ◌<◌, vec_capacity, vec_len}
use Rattle.sig_links.specs.Views.{SideView}
use Rattle.sig_serving.specs.Line.{Line}
use Rattle.sig_link.specs.Moment.{Moment, desk_of, moment}
use Rattle.sig_link.specs.declared.work.Work.{Work}

-- there is room for one turn more
abbrev pub HasRoom : {Turn : Type 0} → Work Turn → Type 0
HasRoom work = vec_len work.turns < vec_capacity work.turns

-- all but the turns is as before
pub record SameBeside {Turn : Type 0} (old new : Work Turn) : Type 0 where
  pub link : new.link ≡ old.link
  pub answered : new.answered ≡ old.answered
  pub kept : new.kept ≡ old.kept

-- the moment of it, with what is seen of the link and of the side, and what the taker tells
abbrev pub moment_of : {Turn Told : Type 0} → Work Turn → Line → SideView → Told → Moment Turn Told
moment_of work line side told = moment work.kept line (desk_of side told work.turns.items)
