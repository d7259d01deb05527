-- Numbers in bytes, lowest first.
use Rattle.std.proofs.Common.{◌≡◌, ℕ, zero, suc, ◌+◌, ◌*◌, ◌/◌, ◌^◌, ◌<◌, List, [], ◌∷◌, length, get_or, refl, ap, pow-suc, arith}
use Rattle.shelves.specs.Bytes.{little, bytes_of}

-- eight bytes, one by one
pub little_eight : (p : List ℕ) → length p ≡ 8 → get_or p 0 0 + get_or p 1 0 * 256 + get_or p 2 0 * 65536 + get_or p 3 0 * 16777216 + get_or p 4 0 * 4294967296 + get_or p 5 0 * 1099511627776 + get_or p 6 0 * 281474976710656 + get_or p 7 0 * 72057594037927936 ≡ little p
little_eight [] h = absurd (omega arith)
little_eight (a ∷ []) h = absurd (omega arith)
little_eight (a ∷ b ∷ []) h = absurd (omega arith)
little_eight (a ∷ b ∷ c ∷ []) h = absurd (omega arith)
little_eight (a ∷ b ∷ c ∷ d ∷ []) h = absurd (omega arith)
little_eight (a ∷ b ∷ c ∷ d ∷ e ∷ []) h = absurd (omega arith)
little_eight (a ∷ b ∷ c ∷ d ∷ e ∷ f ∷ []) h = absurd (omega arith)
little_eight (a ∷ b ∷ c ∷ d ∷ e ∷ f ∷ i ∷ []) h = absurd (omega arith)
little_eight (a ∷ b ∷ c ∷ d ∷ e ∷ f ∷ i ∷ j ∷ []) h = omega arith
little_eight (a ∷ b ∷ c ∷ d ∷ e ∷ f ∷ i ∷ j ∷ k ∷ p) h = absurd (omega arith)

-- as many bytes as asked
pub length_bytes_of : (k n : ℕ) → length (bytes_of k n) ≡ k
length_bytes_of zero n = refl
length_bytes_of (suc k) n = ap suc (length_bytes_of k (n / 256))

-- a number that fits so many bytes is spelt by them
pub little_bytes_of : (k n : ℕ) → n < 256 ^ k → little (bytes_of k n) ≡ n
little_bytes_of zero n h = omega arith
little_bytes_of (suc k) n h =
    let p = pow-suc 256 k in
    let e = little_bytes_of k (n / 256) (omega arith) in
    omega arith
