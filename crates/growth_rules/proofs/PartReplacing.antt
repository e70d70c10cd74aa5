-- Grants, and the component after an extension that goes, keep what a step keeps.
use Rattle.std.specs.Prelude.{ℕ, ◌≤◌, ◌<◌, ◌≡◌, List, [], ◌∷◌, Bool, true, false, not, length}
use Rattle.std.proofs.Common.{◌∙◌, arith}
use Rattle.std.proofs.lemmas.Bool.{not-true}
use Rattle.lists.specs.Bools.{cond_elim, bool_cases, clash}
use Rattle.layout.specs.declared.Object.{Object}
use Rattle.layout.specs.declared.Component.{Component}
use Rattle.layout.specs.Facts.{IsExtension, IsBare, Kind, is_init, is_extension, is_bare, Fields, Linked}
use Rattle.layout.specs.FactLaws.{kind_ordered, kind_extension}
use Rattle.growth_rules.specs.Parts.{with_extent, made_init, reach, leaving, granting, following}
use Rattle.growth_rules.specs.Replacing.{Replaced, Renewed, Chosen}
use Rattle.growth_rules.specs.RenewingLaws.{bare_renewed}
use Rattle.growth_rules.specs.ReplacingLaws.{replaced_same, replaced_gone, replaced_renewed, replaced_leaving}

-- A component whose flags are both not set is bare.
pub kind_bare : {c : Component} → Kind c → c.init ≡ false → c.extension ≡ false → IsBare c
kind_bare (is_init k) i x = clash k.init i
kind_bare (is_extension k) i x = clash k.extension x
kind_bare (is_bare k) i x = k

-- A component that is directly after an extension is none.
after_extension : (x n : Component) → (n.extension ≡ true → not x.extension ≡ true) → x.extension ≡ true
    → n.extension ≡ false
after_extension x n may e = bool_cases n.extension (λ q. clash e (not-true x.extension (may q))) (λ q. q)

-- A grant to a component, renewed or not: c' is c up to where it ends.
pub granting_replaced : {at : ℕ} {may : Bool} {os : List Object} (c c' x : Component) (t : List Component)
    → Fields (c ∷ x ∷ t)
    → Linked false at may (c ∷ x ∷ t) → IsExtension x → c'.begin ≡ c.begin
    → (c.begin < reach x.begin x → Renewed c (with_extent c'.begin (reach x.begin x) c') os)
    → Replaced at at may (c ∷ x ∷ t) (granting c' x t) os []
unfolding granting
granting_replaced c c' x t f k is begin renewed =
    let r = reach x.begin x in
    let ordered = kind_ordered f.1 in
    let joined = k.3.0 in
    let size = is.size.nonzero in
    let extent = is.extent in
    replaced_renewed c (with_extent c'.begin r c') (x ∷ t) f (renewed (omega arith)) (begin ∙ k.0)
    (λ i. (omega (arith, k.0), omega arith))
    (replaced_leaving c.end r (not c.extension) x t f.2 k.3 is (omega arith))

-- The component after an extension that goes, made init, and what follows it.
pub following_replaced : {at : ℕ} {may : Bool} (x n : Component) (t : List Component) (os : List Object)
    → Fields (x ∷ n ∷ t)
    → Linked false at may (x ∷ n ∷ t) → IsExtension x → n.init ≡ false → Chosen n.stripe_count os
    → Replaced at at may (x ∷ n ∷ t) (following x.begin (made_init os n) t) os []
unfolding following
following_replaced {at} {may} x n t os f k is i ch = go t f.2 k.3
  where
    -- The component is bare.
    bare : IsBare n
    bare = kind_bare f.2.1 i (after_extension x n k.3.1 is.extension)

    -- It begins where the extension did, and ends at `end`; t' are after it.
    moved : (end : ℕ) (t t' : List Component) → Fields (n ∷ t) → x.begin < end → Replaced n.end end true t t' [] []
        → Replaced at at may (x ∷ n ∷ t) (with_extent x.begin end (made_init os n) ∷ t') os []
    moved end t t' f h replaced =
        replaced_gone x is
        (replaced_renewed n (with_extent x.begin end (made_init os n)) t f (bare_renewed n x.begin end os bare ch h) k.0
        (λ q. clash q i) replaced)

    -- The component ends after the extension's begin.
    below : x.begin < n.end
    below = omega (arith, is.extent, k.3.0, kind_ordered f.2.1)

    -- If no extension follows it, it ends where it did.
    plain : (t : List Component) → Fields (n ∷ t) → Linked false x.end (not x.extension) (n ∷ t)
        → Replaced at at may (x ∷ n ∷ t) (with_extent x.begin n.end (made_init os n) ∷ t) os []
    plain t f k = moved n.end t t f below (replaced_same n.end (not n.extension) t f.2 k.3)

    -- By what follows it.
    go : (t : List Component) → Fields (n ∷ t) → Linked false x.end (not x.extension) (n ∷ t)
        → Replaced at at may (x ∷ n ∷ t) (following x.begin (made_init os n) t) os []
    go [] f k = plain [] f k
    go (y ∷ t) f k =
        cond_elim (λ (u : List Component). Replaced at at may (x ∷ n ∷ y ∷ t) u os []) y.extension
        (λ e. let isy = kind_extension f.2.1 e in
        let size = isy.size.nonzero in
        let extent = isy.extent in
        let joined = k.3.0 in
        let start = below in
        moved (reach x.begin y) (y ∷ t) (leaving (reach x.begin y) y t) f (omega arith)
        (replaced_leaving n.end (reach x.begin y) (not n.extension) y t f.2 k.3 isy (omega arith)))
        (λ e. plain (y ∷ t) f k)

-- There is a component after the extension that goes.
pub following_some : (from : ℕ) (n : Component) (t : List Component) → 1 ≤ length (following from n t)
unfolding following
following_some from n [] = omega arith
following_some from n (y ∷ t) =
    cond_elim (λ (u : List Component). 1 ≤ length u) y.extension (λ e. omega arith) (λ e. omega arith)
