-- The watch keeps its promises: specs/Promises.antt, each by its law. Assumes nothing.
use Rattle.watch.specs.Promises.{Promises}
use Rattle.watch.proofs.Causes.{forks_two, forks_none, no_sites, ancestors_two, ancestors_thirteen, ancestors_none, no_places}
use Rattle.watch.proofs.ForkedMask.{forked_bit, forked_count, forked_at_most_f}
use Rattle.watch.proofs.AncestorMask.{found_bit, found_count, itself_not}

pub promises : Promises
promises =
    record {
      two = forks_two;
      forks_none = forks_none;
      no_sites = no_sites;
      no_places = no_places;
      ancestors_two = ancestors_two;
      forked = forked_bit;
      counted = forked_count;
      at_most = forked_at_most_f;
      thirteen = ancestors_thirteen;
      none = ancestors_none;
      ancestor = found_bit;
      ancestors_counted = found_count;
      itself = itself_not;
    }
