-- `quick::list_at` meets its contract.
use Rattle.layout.specs.Kinds.{kind_of}
use Rattle.calls.proofs.QuickPlaces.{few, list-told}
use Rattle.calls.proofs.Searches.{run_small}
use native.Mathlib.Omega.{arith}
use Rattle.calls.proofs.quick.list_at.Goals as goal

pub lists_at-requires : goal.lists_at-requires
lists_at-requires c = few c.requires.0

pub overflow_add-result : goal.overflow_add-result
overflow_add-result c =
    record {
      fits = omega (
        arith,
        run_small c.requires.0 (kind_of c.args.kind) _ c.requires.1 c.run_of-run.ensures.from c.run_of-run.ensures.count,
        (few c.requires.0).few-cells,
      );
    }

pub overflow_add-result-2 : goal.overflow_add-result-2
overflow_add-result-2 c =
    record {
      fits = omega (
        arith,
        run_small c.requires.0 (kind_of c.args.kind) _ c.requires.1 c.run_of-run.ensures.from c.run_of-run.ensures.count,
        c.lists_at.ensures.1,
        (few c.requires.0).few-cells,
      );
    }

pub returns : goal.returns
returns c = list-told c.requires.0 (kind_of c.args.kind) _ c.lists_at.ensures.0 c.run_of-run.ensures.from
