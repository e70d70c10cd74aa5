-- `growth::outcomes::has_home` meets its contract: a byte has a home exactly if a lookup finds one.
use Rattle.std.specs.Prelude.{ℕ, ◌≡◌, List, Bool, Result, Ok, Err, is_ok}
use Rattle.std.proofs.Common.{◌∙◌}
use Rattle.refusals.specs.declared.Refusal.{Refusal}
use Rattle.refusals.specs.Refusals.{number_of}
use Rattle.layout.specs.declared.Component.{Component}
use Rattle.layout.specs.Facts.{Keeps}
use Rattle.layout.specs.FactLaws.{valid_facts}
use Rattle.mapping.specs.declared.ObjectHome.{ObjectHome}
use Rattle.mapping.specs.Homes.{has_home}
use Rattle.mapping.specs.Lookup.{lookup_in, lookup_says, home_says}
use Rattle.growth.specs.AnswerLaws.{found_home, refused_home}
use Rattle.growth.proofs.outcomes.has_home.Goals as goal

-- The answer of a lookup, or its refusal.
by_lookup : {more : Bool} {cs : List Component} (k : Keeps more cs) (b : ℕ) (r : Result ObjectHome Refusal)
    → lookup_says r ≡ lookup_in b cs → is_ok r ≡ has_home b cs
unfolding lookup_says
by_lookup k b (Ok h) e = found_home k b (home_says h) e
by_lookup k b (Err n) e = refused_home k b (number_of n) e

pub returns : goal.returns
returns c =
    c.is_ok.ensures.value
    ∙ by_lookup (valid_facts c.args.l c.requires).keeps c.args.offset c.lookup_valid.result c.lookup_valid.ensures
