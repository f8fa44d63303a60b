-- A hashed string determines what is hashed: scheme, k, ρ and each vector, where ρ has 32 bytes and the vectors have given lengths. Assumes nothing.
use Prim.Native.Nat.{ℕ, ◌+◌}
use mathlib.Core.Path.{◌≡◌, refl, sym, ap, ap₂, ◌∙◌}
use mathlib.Core.List.{List, [], ◌∷◌, ◌++◌, map, flatten, append-nil, cons-ne-nil, head-eq_of_cons-eq, tail-eq_of_cons-eq}
use native.Mathlib.Omega.{arith}
use lib.ListN.{length, length-append}
use Rattle.slices.proofs.Parts.{append_split}
use Rattle.scheme.proofs.Bytes.{byte_determines}
use Rattle.commitment.specs.declared.Domain.{Domain}
use Rattle.commitment.specs.Commitment.{prefix, hashed_string, in_order}

-- ---- what stands before ρ

-- it determines the domain, which holds the scheme, and k
pub prefix_determines : (d e : Domain) (j k : ℕ) → prefix d j ≡ prefix e k → (d ≡ e) × (j ≡ k)
unfolding prefix
prefix_determines d e j k same =
    let scheme : d.scheme ≡ e.scheme = byte_determines d.scheme e.scheme (head-eq_of_cons-eq same) in
    (λ i. record { scheme = scheme i }, head-eq_of_cons-eq (tail-eq_of_cons-eq same))

-- ---- the vectors

-- two and three vectors, as the contracts of this crate have them
pub two_vectors : (a b : List ℕ) → in_order (a ∷ b ∷ []) ≡ a ++ b
unfolding in_order
two_vectors a b = refl

pub three_vectors_lem : (a b c : List ℕ) → in_order (a ∷ b ∷ c ∷ []) ≡ a ++ (b ++ c)
unfolding in_order
three_vectors_lem a b c = refl

in_order_flat : (vs : List (List ℕ)) → in_order vs ≡ flatten vs
unfolding in_order flatten
in_order_flat [] = refl
in_order_flat (v ∷ []) = sym (append-nil v)
in_order_flat (v ∷ w ∷ vs) = ap (λ (l : List ℕ). v ++ l) (in_order_flat (w ∷ vs))

in_order_length : (us vs : List (List ℕ)) → map length us ≡ map length vs → length (in_order us) ≡ length (in_order vs)
unfolding flatten
in_order_length us vs same = ap length (in_order_flat us) ∙ go us vs same ∙ sym (ap length (in_order_flat vs))
  where
    go : (us vs : List (List ℕ)) → map length us ≡ map length vs → length (flatten us) ≡ length (flatten vs)
    go [] [] same = refl
    go [] (v ∷ vs) same = absurd (cons-ne-nil (length v) (map length vs) (sym same))
    go (u ∷ us) [] same = absurd (cons-ne-nil (length u) (map length us) same)
    go (u ∷ us) (v ∷ vs) same =
        length-append u (flatten us) ∙
        ap₂ ◌+◌ (head-eq_of_cons-eq same) (go us vs (tail-eq_of_cons-eq same)) ∙
        sym (length-append v (flatten vs))

-- vectors of given lengths are determined by what they are in order
pub in_order_determines : (us vs : List (List ℕ)) → map length us ≡ map length vs → in_order us ≡ in_order vs → us ≡ vs
unfolding flatten
in_order_determines us vs same e = go us vs same (sym (in_order_flat us) ∙ e ∙ in_order_flat vs)
  where
    go : (us vs : List (List ℕ)) → map length us ≡ map length vs → flatten us ≡ flatten vs → us ≡ vs
    go [] [] same e = refl
    go [] (v ∷ vs) same e = absurd (cons-ne-nil (length v) (map length vs) (sym same))
    go (u ∷ us) [] same e = absurd (cons-ne-nil (length u) (map length us) same)
    go (u ∷ us) (v ∷ vs) same e =
        let parts = append_split u v (flatten us) (flatten vs) (head-eq_of_cons-eq same) e in
        ap₂ (λ (w : List ℕ) (ws : List (List ℕ)). w ∷ ws) parts.0 (go us vs (tail-eq_of_cons-eq same) parts.1)

-- ---- the string

string_length : (d : Domain) (k : ℕ) (ρ v : List ℕ) → length (hashed_string d k ρ v) ≡ length (prefix d k) + (length ρ + length v)
unfolding hashed_string
string_length d k ρ v = length-append (prefix d k) (ρ ++ v) ∙ ap (λ (n : ℕ). length (prefix d k) + n) (length-append ρ v)

-- what stands before ρ is as long in both strings, since all that stands behind it is
pub string_determines : (d e : Domain) (j k : ℕ) (ρ σ : List ℕ) (us vs : List (List ℕ)) → length ρ ≡ 32 → length σ ≡ 32 → map length us ≡ map length vs →
    hashed_string d j ρ (in_order us) ≡ hashed_string e k σ (in_order vs) → (d ≡ e) × (j ≡ k) × (ρ ≡ σ) × (us ≡ vs)
unfolding hashed_string
string_determines d e j k ρ σ us vs long long' lengths same =
    let vectors : length (in_order us) ≡ length (in_order vs) = in_order_length us vs lengths in
    let whole : length (hashed_string d j ρ (in_order us)) ≡ length (hashed_string e k σ (in_order vs)) = ap length same in
    let front_length : length (prefix d j) ≡ length (prefix e k) = omega (arith, string_length d j ρ (in_order us), string_length e k σ (in_order vs), whole, vectors) in
    let front = append_split (prefix d j) (prefix e k) (ρ ++ in_order us) (σ ++ in_order vs) front_length same in
    let back = append_split ρ σ (in_order us) (in_order vs) (long ∙ sym long') front.1 in
    let before = prefix_determines d e j k front.0 in
    (before.0, before.1, back.0, in_order_determines us vs lengths back.1)
