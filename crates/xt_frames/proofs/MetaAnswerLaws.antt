-- answers of the metadata server
use Rattle.std.proofs.Common.{◌≡◌, ℕ, ◌^◌, Bool, true, false, List, ◌++◌, Ok, refl, lit<}
use Rattle.xt_messages.specs.declared.meta.MetaRefusal.{MetaRefusal}
use Rattle.xt_messages.specs.declared.meta.RowKind.{RowKind}
use Rattle.xt_messages.specs.declared.meta.MetaAnswer.{MetaAnswer}
use Rattle.xt_messages.specs.declared.meta.MetaRefusal.TheVariants as refusal
use Rattle.xt_messages.specs.declared.meta.RowKind.TheVariants as row_kind
use Rattle.xt_messages.specs.declared.meta.MetaAnswer.TheVariants as answer
use Rattle.xt_fields.specs.Reading.{Field, made}
use Rattle.xt_messages.specs.Limits.{FitsMetaRefusal, FitsMetaAnswer, FitsNames}
use Rattle.xt_fields.specs.BasicFields.{byte_bytes, word_bytes, byte_at, tagged}
use Rattle.xt_wire.specs.IdFields.{node_bytes}
use Rattle.xt_frames.specs.ReplyFields.{denial_bytes}
use Rattle.xt_frames.specs.MetaAnswers.{refusal_bytes, refusal_arms, forbidden_at, too_few_at, report_denied_at, changing_at, unknown_osd_at, flag_bytes, flag_arms, flag_at, names_bytes, names_at, row_kind_bytes, row_kind_arms, row_kind_at, meta_answer_bytes, meta_answer_arms, meta_answer_at, names_answer_at, row_answer_at, granted_at, located_at}
use Rattle.xt_fields.specs.OneSpelling.{IsField}
use Rattle.xt_fields.proofs.Laws.{IsArm, AreArms, both, as_field, arm, lone_arm, arm_again, no_more, or_arm, more_arms}
use Rattle.xt_fields.proofs.BasicLaws.{byte_field, half_field, word_field, name_field, within_byte, counted_field, tagged_field}
use Rattle.xt_wire.proofs.IdLaws.{node_field, mark_field}
use Rattle.xt_wire.proofs.FileLaws.{version_field, location_field, capability_field}
use Rattle.xt_frames.proofs.ReplyLaws.{denial_field}

-- ---- answers

forbidden_arm : IsArm refusal_bytes FitsMetaRefusal 8 forbidden_at
unfolding forbidden_at
forbidden_arm = arm 8 ((within_byte 1 4 (lit< tt))) refusal.Forbidden (λ a. refl) (λ a h. assumption)

too_few_arm : IsArm refusal_bytes FitsMetaRefusal 10 too_few_at
unfolding too_few_at
too_few_arm = arm 10 byte_field refusal.TooFew (λ a. refl) (λ a h. assumption)

report_denied_arm : IsArm refusal_bytes FitsMetaRefusal 11 report_denied_at
unfolding report_denied_at
report_denied_arm = arm 11 denial_field refusal.Denied (λ a. refl) (λ a h. assumption)

changing_arm : IsArm refusal_bytes FitsMetaRefusal 16 changing_at
unfolding changing_at
changing_arm = arm 16 version_field refusal.Changing (λ a. refl) (λ a h. assumption)

unknown_osd_arm : IsArm refusal_bytes FitsMetaRefusal 18 unknown_osd_at
unfolding unknown_osd_at
unknown_osd_arm = arm 18 node_field refusal.UnknownOsd (λ a. refl) (λ a h. assumption)

pub refusal_arms_take : AreArms refusal_bytes FitsMetaRefusal refusal_arms
unfolding refusal_arms
refusal_arms_take = or_arm 1 (lone_arm 1 refusal.NotFound refl tt) (or_arm 2 (lone_arm 2 refusal.Exists refl tt) (or_arm 3 (lone_arm 3 refusal.NotDir refl tt) (or_arm 4 (lone_arm 4 refusal.IsDir refl tt) (or_arm 5 (lone_arm 5 refusal.NotEmpty refl tt) (or_arm 6 (lone_arm 6 refusal.IntoSelf refl tt) (or_arm 7 (lone_arm 7 refusal.OtherVolume refl tt) (or_arm 8 forbidden_arm (or_arm 9 (lone_arm 9 refusal.NameBad refl tt) (or_arm 10 too_few_arm (or_arm 11 report_denied_arm (or_arm 16 changing_arm (or_arm 17 (lone_arm 17 refusal.NotReplicated refl tt) (or_arm 18 unknown_osd_arm no_more)))))))))))))

refusal_again : (b : MetaRefusal) (rest : List ℕ) → FitsMetaRefusal b → tagged refusal_arms (refusal_bytes b ++ rest) ≡ Ok (b, rest)
unfolding byte_at refusal_arms forbidden_at too_few_at report_denied_at changing_at unknown_osd_at
refusal_again refusal.NotFound rest h = refl
refusal_again refusal.Exists rest h = refl
refusal_again refusal.NotDir rest h = refl
refusal_again refusal.IsDir rest h = refl
refusal_again refusal.NotEmpty rest h = refl
refusal_again refusal.IntoSelf rest h = refl
refusal_again refusal.OtherVolume rest h = refl
refusal_again (refusal.Forbidden rule) rest h = arm_again ((within_byte 1 4 (lit< tt))) refusal.Forbidden rule rest assumption
refusal_again refusal.NameBad rest h = refl
refusal_again (refusal.TooFew have) rest h = arm_again byte_field refusal.TooFew have rest assumption
refusal_again (refusal.Denied rule) rest h = arm_again denial_field refusal.Denied rule rest assumption
refusal_again (refusal.Changing version) rest h = arm_again version_field refusal.Changing version rest assumption
refusal_again refusal.NotReplicated rest h = refl
refusal_again (refusal.UnknownOsd node) rest h = arm_again node_field refusal.UnknownOsd node rest assumption

pub names_field : IsField names_bytes FitsNames names_at
unfolding names_at
names_field = as_field (λ n h. record { few = h.few; each = h.each }) (λ n h. record { few = h.few; each = h.each }) (counted_field 512 (2 ^ 32) (lit< tt) word_field name_field)

abbrev FitsRowKind : RowKind → Type 0
FitsRowKind kind = Unit {0}

pub row_kind_arms_take : AreArms row_kind_bytes FitsRowKind row_kind_arms
unfolding row_kind_arms
row_kind_arms_take = or_arm 1 (lone_arm 1 row_kind.Directory refl tt) (or_arm 2 (lone_arm 2 row_kind.File refl tt) no_more)

row_kind_again : (b : RowKind) (rest : List ℕ) → FitsRowKind b → tagged row_kind_arms (row_kind_bytes b ++ rest) ≡ Ok (b, rest)
unfolding byte_at row_kind_arms
row_kind_again row_kind.Directory rest h = refl
row_kind_again row_kind.File rest h = refl

pub row_kind_field : IsField row_kind_bytes FitsRowKind row_kind_at
unfolding row_kind_at
row_kind_field = tagged_field row_kind_arms_take row_kind_again

abbrev FitsFlag : Bool → Type 0
FitsFlag flag = Unit {0}

flag_arms_take : AreArms flag_bytes FitsFlag flag_arms
unfolding flag_arms
flag_arms_take = or_arm 0 (lone_arm 0 false refl tt) (or_arm 1 (lone_arm 1 true refl tt) no_more)

flag_again : (b : Bool) (rest : List ℕ) → FitsFlag b → tagged flag_arms (flag_bytes b ++ rest) ≡ Ok (b, rest)
unfolding byte_at flag_arms
flag_again false rest h = refl
flag_again true rest h = refl

pub flag_field : IsField flag_bytes FitsFlag flag_at
unfolding flag_at
flag_field = tagged_field flag_arms_take flag_again

names_answer_arm : IsArm meta_answer_bytes FitsMetaAnswer 12 names_answer_at
unfolding names_answer_at
names_answer_arm = arm 12 names_field answer.Names (λ a. refl) (λ a h. assumption)

row_answer_arm : IsArm meta_answer_bytes FitsMetaAnswer 13 row_answer_at
unfolding row_answer_at
row_answer_arm = arm 13 (both (both (both (both row_kind_field word_field) word_field) half_field) mark_field) (λ f. answer.Row f.0.0.0.0 f.0.0.0.1 f.0.0.1 f.0.1 f.1) (λ a. refl) (λ a h. assumption)

granted_arm : IsArm meta_answer_bytes FitsMetaAnswer 14 granted_at
unfolding granted_at
granted_arm = arm 14 (both capability_field mark_field) (λ f. answer.Granted f.0 f.1) (λ a. refl) (λ a h. assumption)

located_arm : IsArm meta_answer_bytes FitsMetaAnswer 15 located_at
unfolding located_at
located_arm = arm 15 (both location_field flag_field) (λ f. answer.Located f.0 f.1) (λ a. refl) (λ a h. h.0)

pub meta_answer_arms_take : AreArms meta_answer_bytes FitsMetaAnswer meta_answer_arms
unfolding meta_answer_arms
meta_answer_arms_take = or_arm 0 (lone_arm 0 answer.Done refl tt) (or_arm 12 names_answer_arm (or_arm 13 row_answer_arm (or_arm 14 granted_arm (or_arm 15 located_arm (more_arms answer.Refused (λ a. refl) (λ a h. h) refusal_arms_take)))))

-- what reads a refusal reads the answer that it makes
refused_as : (field : Field MetaRefusal) (bytes : List ℕ) {x : MetaRefusal × List ℕ} → field bytes ≡ Ok x → made answer.Refused field bytes ≡ Ok (answer.Refused x.0, x.1)
refused_as field bytes e = rw e refl

-- a refusal stands after none of the other tags
refused_again : (r : MetaRefusal) (rest : List ℕ) → FitsMetaRefusal r → tagged meta_answer_arms (refusal_bytes r ++ rest) ≡ Ok (answer.Refused r, rest)
unfolding byte_at meta_answer_arms refusal_arms forbidden_at too_few_at report_denied_at changing_at unknown_osd_at
refused_again refusal.NotFound rest h = refl
refused_again refusal.Exists rest h = refl
refused_again refusal.NotDir rest h = refl
refused_again refusal.IsDir rest h = refl
refused_again refusal.NotEmpty rest h = refl
refused_again refusal.IntoSelf rest h = refl
refused_again refusal.OtherVolume rest h = refl
refused_again refusal.NameBad rest h = refl
refused_again (refusal.Forbidden rule) rest h = refused_as forbidden_at (byte_bytes rule ++ rest) (arm_again (within_byte 1 4 (lit< tt)) refusal.Forbidden rule rest h)
refused_again (refusal.TooFew have) rest h = refused_as too_few_at (byte_bytes have ++ rest) (arm_again byte_field refusal.TooFew have rest h)
refused_again (refusal.Denied rule) rest h = refused_as report_denied_at (denial_bytes rule ++ rest) (arm_again denial_field refusal.Denied rule rest tt)
refused_again (refusal.Changing version) rest h = refused_as changing_at (word_bytes version ++ rest) (arm_again version_field refusal.Changing version rest h)
refused_again refusal.NotReplicated rest h = refl
refused_again (refusal.UnknownOsd node) rest h = refused_as unknown_osd_at (node_bytes node ++ rest) (arm_again node_field refusal.UnknownOsd node rest h)

meta_answer_again : (b : MetaAnswer) (rest : List ℕ) → FitsMetaAnswer b → tagged meta_answer_arms (meta_answer_bytes b ++ rest) ≡ Ok (b, rest)
unfolding byte_at meta_answer_arms names_answer_at row_answer_at granted_at located_at
meta_answer_again answer.Done rest h = refl
meta_answer_again (answer.Refused refusal) rest h = refused_again refusal rest h
meta_answer_again (answer.Names names) rest h = arm_again names_field answer.Names names rest assumption
meta_answer_again (answer.Row kind owner group mode mark) rest h = arm_again (both (both (both (both row_kind_field word_field) word_field) half_field) mark_field) (λ f. answer.Row f.0.0.0.0 f.0.0.0.1 f.0.0.1 f.0.1 f.1) ((((kind, owner), group), mode), mark) rest assumption
meta_answer_again (answer.Granted capability mark) rest h = arm_again (both capability_field mark_field) (λ f. answer.Granted f.0 f.1) (capability, mark) rest assumption
meta_answer_again (answer.Located location changing) rest h = arm_again (both location_field flag_field) (λ f. answer.Located f.0 f.1) (location, changing) rest (h, tt)

pub meta_answer_field : IsField meta_answer_bytes FitsMetaAnswer meta_answer_at
unfolding meta_answer_at
meta_answer_field = tagged_field meta_answer_arms_take meta_answer_again
