-- Sums and products modulo a number, of numbers that move from round to round.
use Rattle.std.proofs.Common.{◌≡◌, ℕ, ◌+◌, ◌-◌, ◌*◌, ◌/◌, ◌%◌, ◌^◌, ◌<◌, sym, ap, ◌∙◌, ◌⊎◌, ⊎_elim, bit_and, arith}
use Rattle.std.proofs.Math.Nat.{mod-add-mod, add-mod-mod, add-mul-mod_self_right, mod-add-div', mod-lt, zero-mod}
use Rattle.std.proofs.Math.Pow.{mod-mod-pow}
use Rattle.std.proofs.lemmas.Nat.{and_mask, mul-mod_second, mul-mod_first}
use Rattle.counting_loops.specs.declared.paces.Pace.{Pace}
use Rattle.counting_loops.specs.declared.paces.Pace.TheVariants.{By}
use Rattle.fs_model.specs.Word.{plus, minus, shift_left}
use Rattle.counting_loops.specs.Paces.{MovedBy}

add_mul_mod : (m a i b : ℕ) → (a + i * (b % m)) % m ≡ (a + i * b) % m
add_mul_mod m a i b = sym (add-mod-mod a (i * (b % m)) m) ∙ ap (λ (n : ℕ). (a + n) % m) (mul-mod_second i b m) ∙ add-mod-mod a (i * b) m

sum_mod : (m a b : ℕ) → (a % m + b % m) % m ≡ (a + b) % m
sum_mod m a b = mod-add-mod a m (b % m) ∙ add-mod-mod a b m

moved_base : (m a i b : ℕ) → (a % m + i * (b % m)) % m ≡ (a + i * b) % m
moved_base m a i b = mod-add-mod a m (i * (b % m)) ∙ add_mul_mod m a i b

pub sum_moved : (m i p q d e x y : ℕ) → x ≡ (p + i * d) % m → y ≡ (q + i * e) % m → (x + y) % m ≡ ((p + q) % m + i * ((d + e) % m)) % m
sum_moved m i p q d e x y f g =
    let order : p + i * d + (q + i * e) ≡ p + q + i * (d + e) = grind arith in
    rw (f, g) (sum_mod m (p + i * d) (q + i * e) ∙ ap (λ (n : ℕ). n % m) order ∙ sym (moved_base m (p + q) i (d + e)))

pub product_moved : (m i p d x k : ℕ) → x ≡ (p + i * d) % m → (x * k) % m ≡ ((p * k) % m + i * ((d * k) % m)) % m
product_moved m i p d x k f =
    let order : (p + i * d) * k ≡ p * k + i * (d * k) = grind arith in
    rw f (mul-mod_first (p + i * d) k m ∙ ap (λ (n : ℕ). n % m) order ∙ sym (moved_base m (p * k) i (d * k)))

-- the same number, up to multiples
same_mod : (m a b j k : ℕ) → a + j * m ≡ b + k * m → a % m ≡ b % m
same_mod m a b j k e = sym (add-mul-mod_self_right a j m) ∙ ap (λ (n : ℕ). n % m) e ∙ add-mul-mod_self_right b k m

-- with q + q' ≡ m, e + e' ≡ m and y + y' ≡ m
minus_moved : (m i p q q' d e e' x y y' : ℕ) → q + q' ≡ m → e + e' ≡ m → y + y' ≡ m → x ≡ (p + i * d) % m → y ≡ (q + i * e) % m
    → (x + y') % m ≡ ((p + q') % m + i * ((d + e') % m)) % m
minus_moved m i p q q' d e e' x y y' hq he hy f g =
    let whole = mod-add-div' (p + i * d) m in
    let other = mod-add-div' (q + i * e) m in
    let many : i * e + i * e' ≡ i * m = grind arith in
    let both : i * (d + e') ≡ i * d + i * e' = grind arith in
    let u = (p + i * d) / m * m in
    let v = (q + i * e) / m * m in
    let more : ((p + i * d) / m + i + 1) * m ≡ u + i * m + m = grind arith in
    let less : ((q + i * e) / m + 1) * m ≡ v + m = grind arith in
    same_mod m (x + y') (p + q' + i * (d + e')) ((p + i * d) / m + i + 1) ((q + i * e) / m + 1) (omega (arith, whole, other, many, both, more, less)) ∙ sym (moved_base m (p + q') i (d + e'))

pub moved_sum : (a b : Pace) (d e i p q x y : ℕ) → a ≡ By d → b ≡ By e → MovedBy a i p x → MovedBy b i q y → plus x y ≡ (plus p q + i * ((d + e) % 2 ^ 32)) % 2 ^ 32
moved_sum a b d e i p q x y ea eb f g = sum_moved (2 ^ 32) i p q d e x y (rw ea at f) (rw eb at g)

pub moved_difference : (a b : Pace) (d e i p q x y : ℕ) → a ≡ By d → b ≡ By e → e < 2 ^ 32 → q < 2 ^ 32 → MovedBy a i p x → MovedBy b i q y → minus x y ≡ (minus p q + i * ((d + (2 ^ 32 - e)) % 2 ^ 32)) % 2 ^ 32
moved_difference a b d e i p q x y ea eb low lowq f g =
    let g' : y ≡ (q + i * e) % 2 ^ 32 = rw eb at g in
    let small : y < 2 ^ 32 = rw g' (mod-lt (q + i * e) {m = 2 ^ 32} (omega arith)) in
    minus_moved (2 ^ 32) i p q (2 ^ 32 - q) d e (2 ^ 32 - e) x y (2 ^ 32 - y) (omega arith) (omega arith) (omega arith) (rw ea at f) g'

pub moved_shift : (a : Pace) (d i p x count : ℕ) → a ≡ By d → MovedBy a i p x → shift_left x count ≡ (shift_left p count + i * shift_left d count) % 2 ^ 32
moved_shift a d i p x count ea f = product_moved (2 ^ 32) i p d x (2 ^ (count % 32)) (rw ea at f)

-- ---- multiples of the size of an access

multiple : (k i step : ℕ) → step % k ≡ 0 → (i * step) % k ≡ 0
multiple k i step h = sym (mul-mod_second i step k) ∙ (let none : i * 0 ≡ 0 = omega arith in rw (h, none) (zero-mod k))

sum_aligned : (k p i step : ℕ) → p % k ≡ 0 → step % k ≡ 0 → (p + i * step) % k ≡ 0
sum_aligned k p i step h g = let m = multiple k i step g in sym (sum_mod k p (i * step)) ∙ (rw (h, m) (zero-mod k))

pub aligned : (k : ℕ) → (k ≡ 1) ⊎ ((k ≡ 2) ⊎ (k ≡ 4)) → (pace : Pace) (i p step x : ℕ) → pace ≡ By step → p % k ≡ 0 → step % k ≡ 0 → MovedBy pace i p x → x % k ≡ 0
aligned k sizes pace i p step x is h g f =
    let f' : x ≡ (p + i * step) % 2 ^ 32 = rw is at f in
    let m = sum_aligned k p i step h g in
    ⊎_elim (λ (e : k ≡ 1). let m' : (p + i * step) % 1 ≡ 0 = rw e at m in rw (e, f') (omega arith))
    (λ (rest : (k ≡ 2) ⊎ (k ≡ 4)). ⊎_elim (λ (e : k ≡ 2). let m' : (p + i * step) % 2 ≡ 0 = rw e at m in rw (e, f') (omega arith))
    (λ (e : k ≡ 4). let m' : (p + i * step) % 4 ≡ 0 = rw e at m in rw (e, f') (omega arith)) rest) sizes

-- ---- low bits

pub mask_fixed : (pace : Pace) (step i p x k mask : ℕ) → pace ≡ By step → k < 32 → mask ≡ 2 ^ k - 1 → step % 2 ^ k ≡ 0 → MovedBy pace i p x → bit_and x mask ≡ bit_and p mask
mask_fixed pace step i p x k mask is low mask_is multiple_is f =
    let f' : x ≡ (p + i * step) % 2 ^ 32 = rw is at f in
    let sum : 32 - k + k ≡ 32 = omega arith in
    let short : (p + i * step) % 2 ^ 32 % 2 ^ k ≡ (p + i * step) % 2 ^ k = ap (λ (n : ℕ). (p + i * step) % 2 ^ n % 2 ^ k) (sym sum) ∙ mod-mod-pow (p + i * step) (32 - k) k in
    let none : p + (i * step) % 2 ^ k ≡ p = ap (λ (n : ℕ). p + n) (multiple (2 ^ k) i step multiple_is) ∙ omega arith in
    let whole : (p + i * step) % 2 ^ k ≡ p % 2 ^ k = sym (add-mod-mod p (i * step) (2 ^ k)) ∙ ap (λ (n : ℕ). n % 2 ^ k) none in
    ap (λ (n : ℕ). bit_and x n) mask_is ∙ and_mask x k ∙ ap (λ (n : ℕ). n % 2 ^ k) f' ∙ short ∙ whole ∙ sym (and_mask p k) ∙ ap (λ (n : ℕ). bit_and p n) (sym mask_is)
