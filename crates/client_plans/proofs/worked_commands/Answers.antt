use Rattle.std.proofs.Common.{refl}
use Rattle.std.specs.Fmt.{digits}
use Rattle.client_plans.specs.Plans.{after, goes_by, operation_of}
use Rattle.client_plans.specs.Worked.{IsStat, IsStatOfRoot, AreLocated, IsListed, IsEmptyPut, IsPut, IsExisting, IsGet, IsHexGet, IsPastEnd, IsTruncate, IsRegistered, IsAbsent, IsUnregistered, IsNotThere, AreShown, IsRefused, IsRetried, AsksPages, AsksPieces}
use Rattle.client_plans.proofs.worked_commands.Goals as goal

a_stat : IsStat
unfolding after goes_by digits
a_stat = refl

a_directory : IsStatOfRoot
unfolding after goes_by digits
a_directory = refl

the_replicas : AreLocated
unfolding after goes_by operation_of digits
the_replicas = (refl, refl, refl)

a_list : IsListed
unfolding after goes_by
a_list = refl

an_empty_put : IsEmptyPut
unfolding after goes_by digits
an_empty_put = refl

a_whole_put : IsPut
unfolding after goes_by digits
a_whole_put = (refl, refl, refl, refl)

an_existing_file : IsExisting
unfolding after goes_by
an_existing_file = refl

a_whole_get : IsGet
unfolding after goes_by
a_whole_get = refl

a_get_in_hex : IsHexGet
unfolding after goes_by
a_get_in_hex = (refl, refl)

a_get_past_the_end : IsPastEnd
unfolding after goes_by
a_get_past_the_end = refl

a_truncation : IsTruncate
unfolding after goes_by operation_of
a_truncation = (refl, refl)

a_registration_over_a_row : IsRegistered
unfolding after goes_by operation_of
a_registration_over_a_row = (refl, refl)

a_new_registration : IsAbsent
unfolding after goes_by
a_new_registration = (refl, refl)

a_removal_of_a_row : IsUnregistered
unfolding after goes_by operation_of
a_removal_of_a_row = (refl, refl, refl, refl, refl)

a_removal_of_none : IsNotThere
unfolding after goes_by
a_removal_of_none = (refl, refl)

all_rows : AreShown
unfolding after goes_by operation_of digits
all_rows = (refl, refl, refl, refl)

a_refusal : IsRefused
unfolding after goes_by
a_refusal = refl

a_retry : IsRetried
unfolding after goes_by
a_retry = refl

whole_pages : AsksPages
unfolding after goes_by operation_of
whole_pages = (refl, refl, refl, refl)

whole_pieces : AsksPieces
unfolding operation_of
whole_pieces = (refl, refl, refl, refl)

pub returns : goal.returns
returns c = record {
  stat = a_stat;
  directory = a_directory;
  located = the_replicas;
  listed = a_list;
  empty = an_empty_put;
  put = a_whole_put;
  existing = an_existing_file;
  get = a_whole_get;
  hex = a_get_in_hex;
  past = a_get_past_the_end;
  truncate = a_truncation;
  registered = a_registration_over_a_row;
  absent = a_new_registration;
  unregistered = a_removal_of_a_row;
  not_there = a_removal_of_none;
  shown = all_rows;
  refused = a_refusal;
  retried = a_retry;
  pages = whole_pages;
  pieces = whole_pieces;
}
