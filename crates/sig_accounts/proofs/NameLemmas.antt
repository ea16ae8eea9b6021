-- The names of streams in their order.
use Rattle.std.proofs.Common.{◌≡◌, ap, sym, ℕ, zero, suc, ◌<◌, List, [], ◌∷◌, map, length, get_or, Some, refl, arith}
use Rattle.std.specs.Prelude.{option_map}
use Rattle.std.specs.List.{slice_get}
use Rattle.sig_accounts.specs.Owings.{Balance, owing_in, stream_in}
use Rattle.sig_history.specs.Streams.{Stream}

-- the name of the stream at a place
pub names_at : (accounts : List Balance) (place : ℕ)
    → slice_get (map (λ (s : Stream). s.conf.stream) (map stream_in (map owing_in accounts))) place
    ≡ option_map (λ (b : Balance). b.owing.stream.conf.stream) (slice_get accounts place)
names_at [] place = refl
names_at (a ∷ more) zero = refl
names_at (a ∷ more) (suc place) = names_at more place

-- an item that stands at a place is got there
pub got : {A : Type 0} (xs : List A) (i : ℕ) (x : A) → i < length xs → x ≡ get_or xs i x → slice_get xs i ≡ Some x
got [] i x h e = absurd (omega (arith, h))
got (y ∷ ys) zero x h e = ap Some (sym e)
got (y ∷ ys) (suc i) x h e = got ys i x (omega (arith, h)) e
