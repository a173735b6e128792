-- `gt_digest` meets its contract. Assumes nothing.
use mathlib.Core.Path.{ap, ◌∙◌}
use Rattle.base.specs.Bytes.{Bytes}
use Rattle.c_interface.specs.Calls.{put_output, digest_output}
use Rattle.c_interface.proofs.gt_digest.Goals as goal

pub returns-clause-output_after : goal.returns-clause-output_after
unfolding digest_output
returns-clause-output_after c = let o = c.args.output.now in c.put_digest.ensures.output_after ∙ ap (λ (x : Bytes). put_output x o) c.digest.ensures
