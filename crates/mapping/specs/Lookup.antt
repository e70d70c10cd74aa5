-- Lookup (1, 10, 11). What is in quotes is document 01's.
use Rattle.std.specs.Prelude.{ℕ, Result, Ok, Err, List, Bool, not, cond, ◌&&◌, leb}
use Rattle.std.proofs.Math.Option.{Option, some}
use Rattle.lists.specs.Tests.{any_of}
use Rattle.refusals.specs.declared.Refusal.{Refusal}
use Rattle.refusals.specs.Refusals.{number_of}
use Rattle.layout.specs.declared.Component.{Component}
use Rattle.layout.specs.declared.Layout.{Layout}
use Rattle.layout.specs.Records.{view}
use Rattle.layout.specs.Rows.{object_of}
use Rattle.layout.specs.Holder.{holds, last_end}
use Rattle.mapping.specs.declared.ObjectHome.{ObjectHome}
use Rattle.mapping.specs.Answers.{Answer, gives, refuses, answer, checked}
use Rattle.mapping.specs.Homes.{Home, in_object, home_of}

-- Byte b lies in the component, and that is not init.
abbrev pub not_init_at : ℕ → Component → Bool
not_init_at b c = not c.init && holds c b

-- The number of the refusal to look up byte b, or 0: 10, "a byte asked for lies at or past the last component's end";
-- 11, "a byte asked for lies in a component that is not init".
unfoldable pub lookup_refusal : ℕ → List Component → ℕ
lookup_refusal b cs = cond (leb (last_end cs) b) 10 (cond (any_of (not_init_at b) cs) 11 0)

-- "Each lookup answers a home, or a refusal number", of components that keep the rules.
unfoldable pub lookup_in : ℕ → List Component → Answer (Option Home)
lookup_in b cs = answer (lookup_refusal b cs) (home_of b cs)

-- The same of any layout, 1 if it is not valid.
unfoldable pub lookup_of : ℕ → Layout → Answer (Option Home)
lookup_of b l = answer (checked l (lookup_refusal b (view l))) (home_of b (view l))

-- What the struct of a home says: the home in the object of that target and number.
abbrev pub home_says : ObjectHome → Home
home_says h = in_object (object_of h.target h.number) h.byte

-- What the answer of `lookup` says, case by case: `Ok` the home in an object, `Err` the number of the refusal.
unfoldable pub lookup_says : Result ObjectHome Refusal → Answer (Option Home)
lookup_says (Ok h) = gives (some (home_says h))
lookup_says (Err e) = refuses (number_of e)
