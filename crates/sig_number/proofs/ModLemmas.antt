-- Remainders, and one step of Montgomery's multiplication.
use Rattle.std.proofs.Common.{◌≡◌, ℕ, zero, suc, ◌+◌, ◌-◌, ◌*◌, ◌^◌, ◌<◌, ◌≤◌, ◌%◌, ◌/◌, Bool, true, false, List, length, get_or, take, drop, refl, ap, sym, ◌∙◌, arith, subst}
use Rattle.std.proofs.Math.Nat.{mul-le-mul_left, mod-add-mod, add-mod-mod, add-mul-mod_self_right, mul-mod_left, pow-le-pow_right, one-le-pow, pow-zero, pow-suc}
use Rattle.std.proofs.lemmas.Nat.{mul-mod_first, mul-mod_second, mul-le, div-mul-add, mod-mul-add, div-add-mod', pow-add, div_below, mod_below}
use Rattle.sig_number.proofs.ValueLemmas.{weight_one, value-drop, value-take, limb_at}
use Rattle.std.proofs.lemmas.List.{length-drop, get_or-drop}
use Rattle.sig_number.specs.Value.{value_in}
use Rattle.std.specs.Int.{from_bool}

-- equal remainders stay equal
pub same_sum : (n a b c : ℕ) → a % n ≡ b % n → (a + c) % n ≡ (b + c) % n
same_sum n a b c e = sym (mod-add-mod a n c) ∙ ap (λ z. (z + c) % n) e ∙ mod-add-mod b n c

pub same_product : (n a b c : ℕ) → a % n ≡ b % n → (a * c) % n ≡ (b * c) % n
same_product n a b c e = sym (mul-mod_first a c n) ∙ ap (λ z. (z * c) % n) e ∙ mul-mod_first b c n

-- what is added clears the lowest limb
pub limb_clears : (b u inverse n : ℕ) → (n * inverse + 1) % b ≡ 0 → (u + ((u % b) * inverse) % b * n) % b ≡ 0
limb_clears b u inverse n h =
    let w = (u % b) * inverse in
    let one : (w % b * n) % b ≡ (w * n) % b = mul-mod_first w n b in
    let two : w * n ≡ (u % b) * (inverse * n) = omega arith in
    let three : ((u % b) * (inverse * n)) % b ≡ (u * (inverse * n)) % b = mul-mod_first u (inverse * n) b in
    let whole : (u + w % b * n) % b ≡ (u + u * (inverse * n)) % b =
    sym (add-mod-mod u (w % b * n) b) ∙ ap (λ z. (u + z) % b) (one ∙ ap (λ z. z % b) two ∙ three) ∙ add-mod-mod u (u * (inverse * n)) b in
    let factored : u + u * (inverse * n) ≡ u * (n * inverse + 1) = omega arith in
    whole ∙ ap (λ z. z % b) factored ∙ sym (mul-mod_second u (n * inverse + 1) b) ∙ ap (λ z. (u * z) % b) h ∙ ap (λ z. z % b) (omega arith) ∙ mul-mod_left 0 b

-- a multiple of p, taken apart
pub multiple_of : (p t : ℕ) → t % p ≡ 0 → t ≡ t / p * p
multiple_of p t h = omega (arith, h, div-add-mod' t p)

pub step_clears : (b p t u a m n inverse : ℕ) → 0 < p → t % p ≡ 0 → (n * inverse + 1) % b ≡ 0 → u ≡ t + p * a → m ≡ (u / p % b * inverse) % b → (u + p * (m * n)) % (p * b) ≡ 0
step_clears b p t u a m n inverse pos h inv e is =
    let x = t / p in
    let t_is : t ≡ x * p = multiple_of p t h in
    let u_is : u ≡ (x + a) * p + 0 = omega (arith, e, t_is) in
    let low : u / p ≡ x + a = ap (λ z. z / p) u_is ∙ div-mul-add (x + a) p 0 pos in
    let clears : (x + a + m * n) % b ≡ 0 = subst (λ z. (x + a + z * n) % b ≡ 0) (sym (is ∙ ap (λ z. (z % b * inverse) % b) low)) (limb_clears b (x + a) inverse n inv) in
    let y = (x + a + m * n) / b in
    let y_is : x + a + m * n ≡ y * b = multiple_of b (x + a + m * n) clears in
    let whole : u + p * (m * n) ≡ y * (p * b) = omega (arith, u_is, ap (λ z. z * p) y_is) in
    ap (λ z. z % (p * b)) whole ∙ mul-mod_left y (p * b)

-- the sum stays below twice the modulus, one limb up
pub step_below : (b p t x y m n : ℕ) → t < p * (2 * n) → x < b → y < n → m < b → t + p * (x * y) + p * (m * n) < p * b * (2 * n)
step_below b p t x y m n h xb yn mb =
    let one : x * y ≤ x * n = mul-le-mul_left x (omega arith) in
    let two : (x + 1) * n ≤ b * n = mul-le (x + 1) n b n (omega arith) (omega arith) in
    let three : (m + 1) * n ≤ b * n = mul-le (m + 1) n b n (omega arith) (omega arith) in
    let all : 2 * n + x * y + m * n ≤ 2 * (b * n) = omega arith in
    let scaled : p * (2 * n + x * y + m * n) ≤ p * (2 * (b * n)) = mul-le-mul_left p all in
    omega (arith, scaled)

pub step_same : (p t v x y m n : ℕ) → t % n ≡ (v * y) % n → (t + p * (x * y) + p * (m * n)) % n ≡ ((v + p * x) * y) % n
step_same p t v x y m n h =
    let one : t + p * (x * y) + p * (m * n) ≡ t + p * (x * y) + p * m * n = omega arith in
    let two : v * y + p * (x * y) ≡ (v + p * x) * y = omega arith in
    ap (λ z. z % n) one ∙ add-mul-mod_self_right (t + p * (x * y)) (p * m) n ∙ same_sum n t (v * y) (p * (x * y)) h ∙ ap (λ z. z % n) two

pub step_room : (b i l k n s : ℕ) → 2 ≤ b → i < l → 2 * l < k → n < b ^ l → s < b ^ i * b * (2 * n) → s < b ^ k
step_room b i l k n s two il room nl h =
    let double : 2 * n ≤ b * b ^ l = mul-le 2 n b (b ^ l) two (omega arith) in
    let whole : b ^ i * b * (2 * n) ≤ b ^ i * b * (b * b ^ l) = mul-le-mul_left (b ^ i * b) double in
    let sum : b ^ (i + 1 + (l + 1)) ≡ b ^ i * b * (b ^ l * b) = pow-add b (i + 1) (l + 1) ∙ ap (λ z. z * b ^ (l + 1)) (weight_one b i) ∙ ap (λ z. b ^ i * b * z) (weight_one b l) in
    let far : b ^ (i + 1 + (l + 1)) ≤ b ^ k = pow-le-pow_right (omega arith) (omega arith) in
    omega (arith, whole, sum, far)

pub mod_small : (n o : ℕ) → o < n → o % n ≡ o
mod_small n o h = ap (λ z. z % n) (omega arith) ∙ mod-mul-add 0 n o h

pub mod_once : (n o : ℕ) → o < n → (o + n) % n ≡ o
mod_once n o h = ap (λ z. z % n) (omega arith) ∙ mod-mul-add 1 n o h

pub kept : (w n z h top o : ℕ) → z ≡ top * w + h → n < w → z < 2 * n → o + n ≡ h → o ≡ z % n
kept w n z h zero o e nw small s = sym (ap (λ x. x % n) (omega arith) ∙ mod_once n o (omega arith))
kept w n z h (suc top) o e nw small s = let q : w ≤ suc top * w = omega arith in absurd (omega arith)

pub restored : (w n z h top o : ℕ) → z ≡ top * w + h → n < w → z < 2 * n → o < w → o + n ≡ h + w → top ≡ 0 → h ≡ z % n
restored w n z h top o e nw small below s none =
    let same : z ≡ h = e ∙ ap (λ q. q * w + h) none ∙ omega arith in
    sym (ap (λ x. x % n) same ∙ mod_small n h (omega arith))

pub carried : (w n z h top o : ℕ) → z ≡ top * w + h → n < w → z < 2 * n → o + n ≡ h + w → (top ≡ 0 → ⊥) → o ≡ z % n
carried w n z h zero o e nw small s some = absurd (some refl)
carried w n z h (suc zero) o e nw small s some = sym (ap (λ x. x % n) (omega arith) ∙ mod_once n o (omega arith))
carried w n z h (suc (suc top)) o e nw small s some = let q : 2 * w ≤ suc (suc top) * w = omega arith in absurd (omega arith)

-- the limbs from i on, where k of them and one bit more hold the number
pub window : (b : ℕ) (t : List ℕ) (i k n : ℕ) → 2 ≤ b → i + k < length t → ((j : ℕ) → get_or t j 0 < b) → n < b ^ k → value_in b t / b ^ i < 2 * n
    → value_in b t / b ^ i ≡ get_or t (i + k) 0 * b ^ k + value_in b (take (i + k - i) (drop i t))
window b t i k n two inside fits nw small =
    let d = drop i t in
    let z = value_in b t / b ^ i in
    let pos : 0 < b = omega arith in
    let wide : 0 < b ^ k = one-le-pow k b pos in
    let long : k < length d = omega (arith, length-drop i t) in
    let d_fits : (j : ℕ) → get_or d j 0 < b = λ j. rw (get_or-drop i t j 0) (fits (i + j)) in
    let is : value_in b d ≡ z = value-drop b t i pos (omega arith) fits in
    let low : value_in b (take k d) ≡ z % b ^ k = value-take b d k pos (omega arith) d_fits ∙ ap (λ x. x % b ^ k) is in
    let upper : z / b ^ k < b = div_below z (b ^ k) b wide (let q : 2 * n ≤ b * b ^ k = mul-le 2 n b (b ^ k) two (omega arith) in omega arith) in
    let top : get_or t (i + k) 0 ≡ z / b ^ k =
    sym (get_or-drop i t k 0) ∙ limb_at b d k pos long d_fits ∙ ap (λ x. x / b ^ k % b) is ∙ mod_small b (z / b ^ k) upper in
    let same : take (i + k - i) d ≡ take k d = ap (λ x. take x d) (omega arith) in
    rw (same, top, low) (sym (div-add-mod' z (b ^ k)))

pub limb_fits : (b p v y : ℕ) → v < p → y < b → v + p * y < p * b
limb_fits b p v y h k = let q : p * (y + 1) ≤ p * b = mul-le-mul_left p (omega arith) in omega (arith, q)

pub owed : (o n h b k l : ℕ) (r : Bool) → o + n ≡ h + b ^ k * from_bool r → r ≡ true → k ≡ l → o + n ≡ h + b ^ l
owed o n h b k l r e is same = e ∙ ap (λ z. h + b ^ k * from_bool z) is ∙ ap (λ z. h + b ^ z * 1) same ∙ omega arith

pub not_owed : (o n h b k : ℕ) (r : Bool) → o + n ≡ h + b ^ k * from_bool r → r ≡ false → o + n ≡ h
not_owed o n h b k r e is = e ∙ ap (λ z. h + b ^ k * from_bool z) is ∙ omega arith

pub lifted : (w n t z p : ℕ) → t % w ≡ 0 → z ≡ t / w % n → t % n ≡ p → (w * z) % n ≡ p
lifted w n t z p h is e =
    ap (λ x. (w * x) % n) is ∙ mul-mod_second w (t / w) n ∙ ap (λ x. x % n) (let q : t ≡ t / w * w = multiple_of w t h in omega (arith, q)) ∙ e

-- the weight of a limb may be cancelled, where the modulus has a negative inverse
pub limb_cancels : (b n inverse x y : ℕ) → (n * inverse + 1) % b ≡ 0 → (b * x) % n ≡ (b * y) % n → x % n ≡ y % n
limb_cancels b n inverse x y h e =
    let v = (n * inverse + 1) / b in
    let v_is : n * inverse + 1 ≡ v * b = multiple_of b (n * inverse + 1) h in
    at v v_is x ∙ (ap (λ z. z % n) (omega arith) ∙ same_product n (b * x) (b * y) v e ∙ ap (λ z. z % n) (omega arith)) ∙ sym (at v v_is y)
  where
    at : (v : ℕ) → n * inverse + 1 ≡ v * b → (z : ℕ) → z % n ≡ (v * b * z) % n
    at v v_is z = sym (ap (λ q. (q * z) % n) (sym v_is) ∙ ap (λ q. q % n) (omega arith) ∙ add-mul-mod_self_right z (inverse * z) n)

pub weight_cancels : (b n inverse x y l : ℕ) → (n * inverse + 1) % b ≡ 0 → (b ^ l * x) % n ≡ (b ^ l * y) % n → x % n ≡ y % n
weight_cancels b n inverse x y zero h e = ap (λ z. z % n) (let q = pow-zero b in omega (arith, ap (λ w. w * x) q)) ∙ e ∙ ap (λ z. z % n) (let q = pow-zero b in omega (arith, ap (λ w. w * y) q))
weight_cancels b n inverse x y (suc l) h e =
    weight_cancels b n inverse x y l h (limb_cancels b n inverse (b ^ l * x) (b ^ l * y) h
    (ap (λ z. z % n) (let q = pow-suc b l in omega (arith, ap (λ w. w * x) q)) ∙ e ∙ ap (λ z. z % n) (let q = pow-suc b l in omega (arith, ap (λ w. w * y) q))))

-- the product of two numbers in form, divided by the weight, is in form
pub product_form : (b l n inverse x y r u v : ℕ) → (n * inverse + 1) % b ≡ 0 → x % n ≡ (b ^ l * u) % n → y % n ≡ (b ^ l * v) % n → (b ^ l * r) % n ≡ (x * y) % n → r % n ≡ (b ^ l * (u * v)) % n
product_form b l n inverse x y r u v h xu yv e =
    let w = b ^ l in
    let one : (x * y) % n ≡ (w * u * y) % n = same_product n x (w * u) y xu in
    let two : (y * (w * u)) % n ≡ (w * v * (w * u)) % n = same_product n y (w * v) (w * u) yv in
    weight_cancels b n inverse r (w * (u * v)) l h
    (e ∙ one ∙ ap (λ z. z % n) (omega arith) ∙ two ∙ ap (λ z. z % n) (omega arith))

pub square_power : (z e : ℕ) → e % 2 ≡ 0 → z ^ (e / 2) * z ^ (e / 2) ≡ z ^ e
square_power z e h = sym (pow-add z (e / 2) (e / 2)) ∙ ap (λ k. z ^ k) (omega arith)

pub odd_power : (z e : ℕ) → e % 2 ≡ 1 → z ^ (e / 2) * z ^ (e / 2) * z ≡ z ^ e
odd_power z e h = ap (λ k. k * z) (sym (pow-add z (e / 2) (e / 2))) ∙ sym (pow-suc z (e / 2 + e / 2)) ∙ ap (λ k. z ^ k) (omega arith)

pub first_power : (z : ℕ) → z ≡ z ^ 1
first_power z = let one = pow-suc z 0 in let q = pow-zero z in omega (arith, ap (λ k. k * z) q, one)

-- a number times the square of the weight, divided by the weight, is the number's form
pub form_of : (b l n inverse x radix r : ℕ) → (n * inverse + 1) % b ≡ 0 → radix % n ≡ (b ^ l * b ^ l) % n → (b ^ l * r) % n ≡ (x * radix) % n → r % n ≡ (b ^ l * x) % n
form_of b l n inverse x radix r h is e =
    let w = b ^ l in
    weight_cancels b n inverse r (w * x) l h
    (e ∙ ap (λ z. z % n) (omega arith) ∙ same_product n radix (w * w) x is ∙ ap (λ z. z % n) (omega arith))

-- a form times a plain number, divided by the weight, is plain
pub plain_of : (b l n inverse x y r u : ℕ) → (n * inverse + 1) % b ≡ 0 → x % n ≡ (b ^ l * u) % n → (b ^ l * r) % n ≡ (x * y) % n → r % n ≡ (u * y) % n
plain_of b l n inverse x y r u h xu e =
    let w = b ^ l in
    weight_cancels b n inverse r (u * y) l h (e ∙ same_product n x (w * u) y xu ∙ ap (λ z. z % n) (omega arith))

-- a remainder, modulo what divides the first modulus
pub low_part : (a d e m : ℕ) → d * e ≡ m → a % m % d ≡ a % d
low_part a d e m h =
    let whole : a ≡ a % m + a / m * e * d = let q = div-add-mod' a m in omega (arith, ap (λ z. a / m * z) h, q) in
    sym (ap (λ z. z % d) whole ∙ add-mul-mod_self_right (a % m) (a / m * e) d)

pub closer_step : (low x p e m : ℕ) → p * p * e ≡ m → (low * x + 1) % p ≡ 0 → (low * (x * ((low * x % m + 2) % m) % m) + 1) % (p * p) ≡ 0
closer_step low x p e m h k =
    let d = p * p in
    let z = (low * x % m + 2) % m in
    let z_is : z % d ≡ (low * x + 2) % d = low_part (low * x % m + 2) d e m h ∙ same_sum d (low * x % m) (low * x) 2 (low_part (low * x) d e m h) in
    let r_is : (x * z % m) % d ≡ ((low * x + 2) * x) % d = low_part (x * z) d e m h ∙ ap (λ s. s % d) (omega arith) ∙ same_product d z (low * x + 2) x z_is in
    let q = (low * x + 1) / p in
    let q_is : low * x + 1 ≡ q * p = multiple_of p (low * x + 1) k in
    let squared : (low * x + 2) * x * low + 1 ≡ q * q * d =
    let one : (low * x + 2) * x * low + 1 ≡ (low * x + 1) * (low * x + 1) = omega arith in
    one ∙ ap (λ s. s * s) q_is ∙ omega arith in
    ap (λ s. (s + 1) % d) (omega arith) ∙ same_sum d (x * z % m * low) ((low * x + 2) * x * low) 1 (same_product d (x * z % m) ((low * x + 2) * x) low r_is)
    ∙ ap (λ s. s % d) squared ∙ mul-mod_left (q * q) d

pub double_power : (n k x : ℕ) → x ≡ 2 ^ k % n → (2 * x) % n ≡ 2 ^ (k + 1) % n
double_power n k x e = ap (λ z. (2 * z) % n) e ∙ mul-mod_second 2 (2 ^ k) n ∙ ap (λ z. z % n) (omega (arith, weight_one 2 k))

pub pow-mul : (n i j : ℕ) → n ^ (i * j) ≡ (n ^ i) ^ j
pow-mul n i zero = ap (λ z. n ^ z) (omega arith) ∙ pow-zero n ∙ sym (pow-zero (n ^ i))
pow-mul n i (suc j) = ap (λ z. n ^ z) (omega arith) ∙ pow-add n (i * j) i ∙ ap (λ z. z * n ^ i) (pow-mul n i j) ∙ sym (pow-suc (n ^ i) j)

-- the lowest limb of a sum of rows
pub low_sum : (b p v d a y n : ℕ) → 0 < p → d ≡ v / p % b → n ≡ y % b → (d + a * n % b) % b ≡ (v + p * (a * y)) / p % b
low_sum b p v d a y n pos e f =
    let q = v / p in
    let one : a * n % b ≡ a * y % b = ap (λ z. a * z % b) f ∙ mul-mod_second a y b in
    let whole : v + p * (a * y) ≡ (q + a * y) * p + v % p = let s = div-add-mod' v p in omega (arith, s) in
    let upper : (v + p * (a * y)) / p ≡ q + a * y = ap (λ z. z / p) whole ∙ div-mul-add (q + a * y) p (v % p) (mod_below v p pos) in
    ap (λ z. (d + z) % b) one ∙ add-mod-mod d (a * y) b ∙ ap (λ z. (z + a * y) % b) e ∙ mod-add-mod q b (a * y) ∙ ap (λ z. z % b) (sym upper)
