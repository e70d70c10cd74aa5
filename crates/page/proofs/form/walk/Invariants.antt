-- `page::form::walk` meets its contract: the form, the end and the places are those of the components that are left.
use Prim.Native.Nat.{◌+◌, ◌*◌, ◌-◌, ◌≤◌}
use mathlib.Core.Path.{◌≡◌}
use lib.ListN.{length, take}
use lib.Seq.{sets}
use Rattle.page.specs.Form.{components_form, places_from, end_from, page_places, page_end, form_by}
use Rattle.page.proofs.Walking.{shifted}
use Rattle.page.proofs.form.walk.Given as goal

abbrev pub invariant-loop-i : goal.invariant-loop-i
invariant-loop-i l = record {
  begun : 16 + 40 * l.i ≤ l.at;
  within : l.at ≤ l.limit;
  positions : length l.places ≡ 16;
  formed : form_by l.limit l.s ≡ components_form (l.count - l.i) l.limit l.s l.at;
  ends : page_end l.s ≡ end_from (l.count - l.i) l.s l.at;
  kept : take l.n l.places ≡ take l.n l.fn.places;
  stored : sets l.fn.places l.n (page_places l.base l.s)
      ≡ sets l.places (l.n + l.i) (shifted l.base (places_from (l.count - l.i) l.s l.at));
}
