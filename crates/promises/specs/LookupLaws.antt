-- Lookup over any layout gives the homes of its bytes. What is in quotes is document 01's.
use Rattle.std.specs.Prelude.{ℕ, ◌≡◌, List, ◌↔◌, true, false, leb}
use Rattle.std.proofs.Common.{sym, ap, ◌∙◌, arith, leb-false}
use Rattle.std.proofs.Math.Option.{Option, some}
use Rattle.std.proofs.lemmas.Bool.{not-false}
use Rattle.lists.specs.Bools.{bool_cases}
use Rattle.lists.specs.Tests.{any_of}
use Rattle.layout.specs.declared.Component.{Component}
use Rattle.layout.specs.declared.Layout.{Layout}
use Rattle.layout.specs.Records.{view}
use Rattle.layout.specs.Rules.{valid}
use Rattle.layout.specs.Facts.{Keeps}
use Rattle.layout.specs.FactLaws.{valid_facts}
use Rattle.layout.specs.Holder.{last_end}
use Rattle.mapping.specs.Answers.{gives}
use Rattle.mapping.specs.AnswerLaws.{answer_gives, checked_valid, checked_gives}
use Rattle.mapping.specs.Homes.{Home, in_init, home_of, is_given, has_home}
use Rattle.mapping.specs.HomeLaws.{given, has_home_lem, not_init_or_init}
use Rattle.mapping.proofs.LookupLaws.{lookup_home}
use Rattle.mapping.specs.Lookup.{not_init_at, lookup_refusal, lookup_in, lookup_of}

-- A lookup in a valid layout gives a home exactly if it is the home of the byte.
pub lookup_gives : (l : Layout) → valid l ≡ true → (b : ℕ) (h : Home)
    → (lookup_of b l ≡ gives (some h)) ↔ (home_of b (view l) ≡ some h)
unfolding lookup_of lookup_in
lookup_gives l v b h =
    let exact = lookup_home (valid_facts l v).keeps b h in
    let same = checked_valid l (lookup_refusal b (view l)) (home_of b (view l)) v in
    (λ e. exact.0 (sym same ∙ e), λ e. same ∙ exact.1 e)

-- A byte of which no number is given lies in an init component.
accepted_init : {cs : List Component} → Keeps false cs → (b : ℕ) → lookup_refusal b cs ≡ 0 → in_init b cs ≡ true
unfolding lookup_refusal
accepted_init {cs} k b z =
    bool_cases (leb (last_end cs) b) (λ e. absurd (omega (arith, rw e at z)))
    (λ e. bool_cases (any_of (not_init_at b) cs) (λ t. absurd (omega (arith, rw (e, t) at z)))
    (λ t. not-false (in_init b cs) (sym (not_init_or_init k b (leb-false (last_end cs) b e)) ∙ t)))

-- "Each lookup answers a home, or a refusal number": one that is not refused gives a home.
pub lookup_some : (l : Layout) (b : ℕ) (o : Option Home) → lookup_of b l ≡ gives o → (h : Home) × (o ≡ some h)
unfolding lookup_of has_home
lookup_some l b o e =
    let cs = view l in
    let g = checked_gives l (lookup_refusal b cs) (home_of b cs) o e in
    let a = answer_gives (lookup_refusal b cs) (home_of b cs) o g.1 in
    let init = accepted_init (valid_facts l g.0).keeps b a.0 in
    given o (ap is_given (sym a.1) ∙ has_home_lem b cs ∙ init)
