-- replies of an OSD
use Rattle.std.proofs.Common.{◌≡◌, ℕ, List, ◌++◌, Ok, refl}
use Rattle.xt_messages.specs.declared.reply.Denial.{Denial}
use Rattle.xt_messages.specs.declared.reply.Reply.{Reply}
use Rattle.xt_messages.specs.declared.reply.Denial.TheVariants as denial
use Rattle.xt_messages.specs.declared.reply.Reply.TheVariants as reply
use Rattle.xt_messages.specs.Limits.{FitsReply}
use Rattle.xt_fields.specs.BasicFields.{byte_at, tagged}
use Rattle.xt_frames.specs.ReplyFields.{denial_bytes, denial_arms, denial_at, reply_bytes, reply_arms, reply_at, ok_reply_at, no_lease_at, no_majority_at, elsewhere_at, denied_at, old_list_at, old_epoch_at, too_far_at}
use Rattle.xt_fields.specs.OneSpelling.{IsField}
use Rattle.xt_fields.proofs.Laws.{IsArm, AreArms, both, arm, lone_arm, arm_again, no_more, or_arm}
use Rattle.xt_fields.proofs.BasicLaws.{byte_field, long_field, count_field, body_field, tagged_field}
use Rattle.xt_wire.proofs.IdLaws.{node_field, mark_field}
use Rattle.xt_wire.proofs.FileLaws.{version_field}

abbrev FitsDenial : Denial → Type 0
FitsDenial rule = Unit {0}

pub denial_arms_take : AreArms denial_bytes FitsDenial denial_arms
unfolding denial_arms
denial_arms_take = or_arm 1 (lone_arm 1 denial.Tag refl tt) (or_arm 2 (lone_arm 2 denial.File refl tt) (or_arm 3 (lone_arm 3 denial.Expired refl tt) (or_arm 4 (lone_arm 4 denial.Mode refl tt) (or_arm 5 (lone_arm 5 denial.List refl tt) (or_arm 6 (lone_arm 6 denial.Range refl tt) no_more)))))

denial_again : (b : Denial) (rest : List ℕ) → FitsDenial b → tagged denial_arms (denial_bytes b ++ rest) ≡ Ok (b, rest)
unfolding byte_at denial_arms
denial_again denial.Tag rest h = refl
denial_again denial.File rest h = refl
denial_again denial.Expired rest h = refl
denial_again denial.Mode rest h = refl
denial_again denial.List rest h = refl
denial_again denial.Range rest h = refl

pub denial_field : IsField denial_bytes FitsDenial denial_at
unfolding denial_at
denial_field = tagged_field denial_arms_take denial_again

ok_reply_arm : IsArm reply_bytes FitsReply 1 ok_reply_at
unfolding ok_reply_at
ok_reply_arm = arm 1 (both (both count_field mark_field) body_field) (λ f. reply.Ok f.0.0 f.0.1 f.1) (λ a. refl) (λ a h. assumption)

no_lease_arm : IsArm reply_bytes FitsReply 2 no_lease_at
unfolding no_lease_at
no_lease_arm = arm 2 long_field reply.NoLease (λ a. refl) (λ a h. assumption)

no_majority_arm : IsArm reply_bytes FitsReply 3 no_majority_at
unfolding no_majority_at
no_majority_arm = arm 3 (both byte_field byte_field) (λ f. reply.NoMajority f.0 f.1) (λ a. refl) (λ a h. assumption)

elsewhere_arm : IsArm reply_bytes FitsReply 4 elsewhere_at
unfolding elsewhere_at
elsewhere_arm = arm 4 (both node_field long_field) (λ f. reply.Elsewhere f.0 f.1) (λ a. refl) (λ a h. assumption)

denied_arm : IsArm reply_bytes FitsReply 5 denied_at
unfolding denied_at
denied_arm = arm 5 denial_field reply.Denied (λ a. refl) (λ a h. assumption)

old_list_arm : IsArm reply_bytes FitsReply 6 old_list_at
unfolding old_list_at
old_list_arm = arm 6 version_field reply.OldList (λ a. refl) (λ a h. assumption)

old_epoch_arm : IsArm reply_bytes FitsReply 7 old_epoch_at
unfolding old_epoch_at
old_epoch_arm = arm 7 count_field reply.OldEpoch (λ a. refl) (λ a h. assumption)

too_far_arm : IsArm reply_bytes FitsReply 8 too_far_at
unfolding too_far_at
too_far_arm = arm 8 long_field reply.TooFar (λ a. refl) (λ a h. assumption)

pub reply_arms_take : AreArms reply_bytes FitsReply reply_arms
unfolding reply_arms
reply_arms_take = or_arm 1 ok_reply_arm (or_arm 2 no_lease_arm (or_arm 3 no_majority_arm (or_arm 4 elsewhere_arm (or_arm 5 denied_arm (or_arm 6 old_list_arm (or_arm 7 old_epoch_arm (or_arm 8 too_far_arm (or_arm 9 (lone_arm 9 reply.ClientsFull refl tt) no_more))))))))

reply_again : (b : Reply) (rest : List ℕ) → FitsReply b → tagged reply_arms (reply_bytes b ++ rest) ≡ Ok (b, rest)
unfolding byte_at reply_arms ok_reply_at no_lease_at no_majority_at elsewhere_at denied_at old_list_at old_epoch_at too_far_at
reply_again (reply.Ok count mark bytes) rest h = arm_again (both (both count_field mark_field) body_field) (λ f. reply.Ok f.0.0 f.0.1 f.1) ((count, mark), bytes) rest assumption
reply_again (reply.NoLease end) rest h = arm_again long_field reply.NoLease end rest assumption
reply_again (reply.NoMajority have need) rest h = arm_again (both byte_field byte_field) (λ f. reply.NoMajority f.0 f.1) (have, need) rest assumption
reply_again (reply.Elsewhere node end) rest h = arm_again (both node_field long_field) (λ f. reply.Elsewhere f.0 f.1) (node, end) rest assumption
reply_again (reply.Denied rule) rest h = arm_again denial_field reply.Denied rule rest assumption
reply_again (reply.OldList version) rest h = arm_again version_field reply.OldList version rest assumption
reply_again (reply.OldEpoch epoch) rest h = arm_again count_field reply.OldEpoch epoch rest assumption
reply_again (reply.TooFar object) rest h = arm_again long_field reply.TooFar object rest assumption
reply_again reply.ClientsFull rest h = refl

pub reply_field : IsField reply_bytes FitsReply reply_at
unfolding reply_at
reply_field = tagged_field reply_arms_take reply_again
