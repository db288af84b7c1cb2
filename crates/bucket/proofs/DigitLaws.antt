-- The laws of `joined` and `groups`: each undoes the other, both go by parts, and the order of lists is that of their numbers.
-- Assumes nothing.
use mathlib.Core.Path.{◌≡◌, refl, sym, ap, ap₂, ◌∙◌, subst}
use mathlib.Core.Bool.{Bool, true, false, cond}
use mathlib.Core.List.{List, [], ◌∷◌, ◌++◌}
use Prim.Native.Nat.{ℕ, zero, suc, ◌+◌, ◌-◌, ◌*◌, ◌/◌, ◌%◌, ◌^◌, ◌≤◌, ◌<◌}
use native.Mathlib.Nat.{le_of_lt, suc-mul, mul-le-mul_right, zero-mod, mod-lt, mod-eq_of_lt, mod-mod, mul-suc, mul-add, add_comm, add_assoc, add-mul, mul_assoc, mul_comm, zero-add, zero-mul, mod-one, div-one, le_of_suc-le-suc, mul-zero, suc-add, div-add-mod, mul-one, div-lt_iff_lt-mul}
use native.Mathlib.Omega.{arith}
use lib.Arith.{digits_lt}
use lib.Dec.{eqb, ltb}
use borrow.Author.Tests.{eqb-true, eqb-false, ltb-true, ltb-false, lt-ltb, le-ltb}
use lib.ListN.{length, get_or, length-append}
use lib.Pow.{pow-add, pow_pos, high, low, shr-shr, field, mod-mod-pow, mod-pow-add}
use lib.Seq.{ext_get_or}
use Rattle.bucket.specs.Digits.{joined, groups, before, bit_at, Below}

-- a number of j bits before one of k bits
pub beside : {a b : ℕ} (j k : ℕ) → a < 2 ^ j → b < 2 ^ k → a * 2 ^ k + b < 2 ^ (j + k)
beside j k ha hb = rw pow-add (digits_lt ha hb)

pub joined_lt : (w : ℕ) (xs : List ℕ) → joined w xs < 2 ^ (w * length xs)
unfolding joined
joined_lt w [] = pow_pos (w * 0)
joined_lt w (x ∷ xs) =
    rw (mul-suc, add_comm (w * length xs) w) (beside w (w * length xs) (mod-lt x (pow_pos w)) (joined_lt w xs))

pub joined-append : (w : ℕ) (xs ys : List ℕ) → joined w (xs ++ ys) ≡ joined w xs * 2 ^ (w * length ys) + joined w ys
unfolding joined
joined-append w [] ys = rw (zero-mul, zero-add)
joined-append w (x ∷ xs) ys =
    let more : 2 ^ (w * length (xs ++ ys)) ≡ 2 ^ (w * length xs) * 2 ^ (w * length ys) = rw (length-append, mul-add, pow-add) in
    ap₂ (λ (e v : ℕ). x % 2 ^ w * e + v) more (joined-append w xs ys) ∙ simp (add-mul, mul_assoc, add_assoc)

pub groups-length : (w n x : ℕ) → length (groups w n x) ≡ n
unfolding groups
groups-length w zero x = refl
groups-length w (suc n) x = ap suc (groups-length w n x)

-- a group below the m low bits
pub part-mod : (x k w m : ℕ) → w + k ≤ m → x % 2 ^ m / 2 ^ k % 2 ^ w ≡ x / 2 ^ k % 2 ^ w
part-mod x k w m h =
    ap (λ (e : ℕ). x % 2 ^ e / 2 ^ k % 2 ^ w) whole
    ∙ ap (λ (q : ℕ). q % 2 ^ w) (field x (m - (w + k) + w) k)
    ∙ mod-mod-pow (x / 2 ^ k) (m - (w + k)) w
  where
    whole : m ≡ (m - (w + k) + w) + k
    whole = omega arith

-- what stands above the groups taken plays no part
pub groups-mod : (w n x m : ℕ) → w * n ≤ m → groups w n (x % 2 ^ m) ≡ groups w n x
unfolding groups
groups-mod w zero x m h = refl
groups-mod w (suc n) x m h =
    let h' = rw mul-suc at h in
    ap₂ (λ (d : ℕ) (l : List ℕ). d ∷ l) (part-mod x (w * n) w m (omega arith)) (groups-mod w n x m (omega arith))

pub groups-low : (w n a : ℕ) {x : ℕ} → x < 2 ^ (w * n) → groups w n (a * 2 ^ (w * n) + x) ≡ groups w n x
groups-low w n a {x} h = sym (groups-mod w n (a * 2 ^ (w * n) + x) (w * n) (omega arith)) ∙ ap (groups w n) (low a (w * n) h)

pub groups-append : (w m n x : ℕ) → groups w (m + n) x ≡ groups w m (x / 2 ^ (w * n)) ++ groups w n x
unfolding groups
groups-append w zero n x = rw zero-add
groups-append w (suc m) n x =
    rw (suc-add, groups-append w m n x, shr-shr, ← mul-add, add_comm n m)

pub groups-below : (w n x : ℕ) → Below w (groups w n x)
unfolding groups
groups-below w zero x i = pow_pos w
groups-below w (suc n) x zero = mod-lt (x / 2 ^ (w * n)) (pow_pos w)
groups-below w (suc n) x (suc i) = groups-below w n x i

-- taking apart what was joined
pub groups-joined-at : (w : ℕ) (xs : List ℕ) (i : ℕ) → get_or (groups w (length xs) (joined w xs)) i 0 ≡ get_or xs i 0 % 2 ^ w
unfolding groups joined
groups-joined-at w [] i = sym (zero-mod (2 ^ w))
groups-joined-at w (x ∷ xs) zero = ap (λ (q : ℕ). q % 2 ^ w) (high (x % 2 ^ w) (w * length xs) (joined_lt w xs)) ∙ mod-mod x (2 ^ w)
groups-joined-at w (x ∷ xs) (suc i) = ap (λ (l : List ℕ). get_or l i 0) (groups-low w (length xs) (x % 2 ^ w) (joined_lt w xs)) ∙ groups-joined-at w xs i

pub groups-joined : (w : ℕ) (xs : List ℕ) → Below w xs → groups w (length xs) (joined w xs) ≡ xs
groups-joined w xs h =
    ext_get_or 0 (groups w (length xs) (joined w xs)) xs (groups-length w (length xs) (joined w xs)) (λ i lt. groups-joined-at w xs i ∙ mod-eq_of_lt (h i))

-- joining what was taken apart
pub joined-groups : (w n x : ℕ) → joined w (groups w n x) ≡ x % 2 ^ (w * n)
unfolding groups joined
joined-groups w zero x = rw mul-zero (sym (mod-one x))
joined-groups w (suc n) x =
    ap₂ (λ (l v : ℕ). x / 2 ^ (w * n) % 2 ^ w % 2 ^ w * 2 ^ (w * l) + v) (groups-length w n x) (joined-groups w n x)
    ∙ rw (mod-mod, mul-suc, add_comm (w * n) w) (sym (mod-pow-add x w (w * n)))

pub groups-at : (w n x i : ℕ) → i < n → get_or (groups w n x) i 0 ≡ x / 2 ^ (w * (n - 1 - i)) % 2 ^ w
unfolding groups
groups-at w zero x i h = absurd (omega arith)
groups-at w (suc n) x zero h = ap (λ (k : ℕ). x / 2 ^ (w * k) % 2 ^ w) (omega arith)
groups-at w (suc n) x (suc i) h = groups-at w n x i (le_of_suc-le-suc h) ∙ ap (λ (k : ℕ). x / 2 ^ (w * k) % 2 ^ w) (omega arith)

-- bit j of numbers of w bits each is bit j of the one number that they make
pub joined-bit : (w : ℕ) (xs : List ℕ) (j : ℕ) → zero < w → j < w * length xs → bit_at w xs j ≡ joined w xs / 2 ^ (w * length xs - 1 - j) % 2
joined-bit w xs j pos lt =
    sym (part-mod (get_or xs i 0) b 1 w (omega (arith, mod-lt j pos)))
    ∙ ap (λ (q : ℕ). q / 2 ^ b % 2) (sym (groups-joined-at w xs i))
    ∙ ap (λ (q : ℕ). q / 2 ^ b % 2) (groups-at w n v i inside)
    ∙ part-mod (v / 2 ^ (w * (n - 1 - i))) b 1 w (omega (arith, mod-lt j pos))
    ∙ ap (λ (q : ℕ). q % 2) (shr-shr v (w * (n - 1 - i)) b)
    ∙ ap (λ (e : ℕ). v / 2 ^ e % 2) (omega (arith, all, div-add-mod j w, mod-lt j pos))
  where
    n : ℕ
    n = length xs

    v : ℕ
    v = joined w xs

    i : ℕ
    i = j / w

    b : ℕ
    b = w - 1 - j % w

    inside : i < n
    inside = (div-lt_iff_lt-mul pos).1 (rw mul_comm at lt)

    whole : n ≡ (n - 1 - i) + (i + 1)
    whole = omega (arith, inside)

    all : w * n ≡ w * (n - 1 - i) + (w * i + w)
    all = ap (λ (k : ℕ). w * k) whole ∙ simp (mul-add, mul-one)

-- one more group
pub groups_snoc : (w n x : ℕ) → groups w (n + 1) x ≡ groups w n (x / 2 ^ w) ++ x % 2 ^ w ∷ []
unfolding groups
groups_snoc w n x =
    groups-append w n 1 x
    ∙ ap₂ (λ (e q : ℕ). groups w n (x / 2 ^ e) ++ q % 2 ^ w ∷ []) (mul-one w) (ap (λ (e : ℕ). x / 2 ^ e) (mul-zero w) ∙ div-one x)

-- the next byte of k
pub byte_next : (k x j : ℕ) → j < k → groups 8 (j + 1) (x / 2 ^ (8 * (k - (j + 1)))) ≡ groups 8 j (x / 2 ^ (8 * (k - j))) ++ x / 2 ^ (8 * (k - 1 - j)) % 256 ∷ []
byte_next k x j h =
    groups_snoc 8 j (x / 2 ^ (8 * (k - (j + 1))))
    ∙ ap₂ (λ (q e : ℕ). groups 8 j q ++ x / 2 ^ (8 * e) % 256 ∷ [])
    (shr-shr x (8 * (k - (j + 1))) 8 ∙ ap (λ (e : ℕ). x / 2 ^ e) (omega arith)) (omega arith)

-- ---- the order

-- a digit that is less makes the number less, whatever stands behind it
digit_less : (p x y : ℕ) {a b : ℕ} → x < p → a < b → a * p + x < b * p + y
digit_less p x y {a} {b} hx h = let room = rw suc-mul at (mul-le-mul_right p h) in omega arith

-- numbers of a first digit and a rest go by the first digit, and where that is the same by the rest
order_digit : (p x y a b : ℕ) → a < p → b < p → cond (eqb x y) (ltb a b) (ltb x y) ≡ ltb (x * p + a) (y * p + b)
order_digit p x y a b ha hb = go (eqb x y) refl (ltb x y) refl (ltb a b) refl
  where
    go : (t : Bool) → eqb x y ≡ t → (u : Bool) → ltb x y ≡ u → (v : Bool) → ltb a b ≡ v → cond t v u ≡ ltb (x * p + a) (y * p + b)
    go true e u f true g = sym (ap (λ (z : ℕ). ltb (z * p + a) (y * p + b)) (eqb-true x y e) ∙ lt-ltb (y * p + a) (y * p + b) (omega (arith, ltb-true a b g)))
    go true e u f false g = sym (ap (λ (z : ℕ). ltb (z * p + a) (y * p + b)) (eqb-true x y e) ∙ le-ltb (y * p + a) (y * p + b) (omega (arith, ltb-false a b g)))
    go false e true f v g = sym (lt-ltb (x * p + a) (y * p + b) (digit_less p a b ha (ltb-true x y f)))
    go false e false f v g =
        let more : y < x = other (eqb-false x y e) (ltb-false x y f) in
        sym (le-ltb (x * p + a) (y * p + b) (le_of_lt (digit_less p b a hb more)))
      where
        other : (x ≡ y → ⊥) → y ≤ x → y < x
        other ne le = omega arith

-- lists of one length are ordered from the front as their numbers are
pub before-joined : (w : ℕ) (xs ys : List ℕ) → length xs ≡ length ys → Below w xs → Below w ys → before xs ys ≡ ltb (joined w xs) (joined w ys)
unfolding before joined
before-joined w [] [] e hx hy = refl
before-joined w [] (y ∷ ys) e hx hy = absurd (omega arith)
before-joined w (x ∷ xs) [] e hx hy = absurd (omega arith)
before-joined w (x ∷ xs) (y ∷ ys) e hx hy =
    let same : length xs ≡ length ys = omega arith in
    ap (λ (t : Bool). cond (eqb x y) t (ltb x y)) (before-joined w xs ys same (λ i. hx (suc i)) (λ i. hy (suc i)))
    ∙ order_digit (2 ^ (w * length ys)) x y (joined w xs) (joined w ys)
    (subst (λ (n : ℕ). joined w xs < 2 ^ (w * n)) same (joined_lt w xs)) (joined_lt w ys)
    ∙ sym (ap₂ ltb (ap₂ (λ (a n : ℕ). a * 2 ^ (w * n) + joined w xs) (mod-eq_of_lt (hx 0)) same)
    (ap (λ (a : ℕ). a * 2 ^ (w * length ys) + joined w ys) (mod-eq_of_lt (hy 0))))
