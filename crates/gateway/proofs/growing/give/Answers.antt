-- `gateway::growing::give` meets its contract: 20 is asked first, and then everything is written.
use Rattle.std.proofs.Common.{ℕ, ◌≡◌, ◌∙◌, refl, Bool, true, false, List, [], ◌∷◌, arith, length, le-leb}
use Rattle.std.specs.Prelude.{cond, leb}
use Rattle.std.specs.Int.{from_bool}
use Rattle.std.proofs.lemmas.Bool.{lt-leb}
use Rattle.std.proofs.lemmas.List.Edits.{sets}
use Rattle.gateway.specs.Host.{lent_after}
use Rattle.gateway.specs.HostGrowth.{pages_of}
use Rattle.gateway.proofs.growing.give.Goals as goal

pub returns-then-buffer-bytes : goal.returns-then-buffer-bytes
unfolding lent_after
returns-then-buffer-bytes c =
    let n = length (pages_of c.args.grown.now.layout) in
    let e : leb n (length c.args.buffer.now) ≡ false =
    lt-leb n (length c.args.buffer.now) (omega (arith, c.pages_length-bytes.ensures)) in
    (rw e, rw e, rw e, rw e)

-- Two numbers stored in two places are what is in them.
both : (ns : List ℕ) (a b : ℕ) → length ns ≡ 2 → a ∷ b ∷ [] ≡ sets ns 0 (a ∷ b ∷ [])
both [] a b h = absurd (omega arith)
both (x ∷ []) a b h = absurd (omega arith)
both (x ∷ y ∷ []) a b h = refl
both (x ∷ y ∷ z ∷ ns) a b h = absurd (omega arith)

as_number : (b : Bool) → from_bool b ≡ cond b 1 0
as_number true = refl
as_number false = refl

pub returns : goal.returns
unfolding lent_after
returns c =
    let n = length (pages_of c.args.grown.now.layout) in
    let e : leb n (length c.args.buffer.now) ≡ true =
    le-leb n (length c.args.buffer.now) (omega (arith, c.pages_length-bytes.ensures)) in
    let home = c.from.ensures ∙ as_number c.args.grown.now.effect.home in (
      rw e,
      rw e c.put_nexts.ensures,
      rw e c.put_pages.ensures,
      rw (e, c.pages_length-bytes.ensures, home) (both c.args.answer.now _ _ c.told-answer),
    )
