-- fields are as long as the rule says, and no longer than their limits
use Rattle.std.proofs.Common.{◌≡◌, ℕ, Bool, true, false, ◌+◌, ◌*◌, ◌≤◌, List, [], ◌∷◌, ◌++◌, length, refl, arith}
use Rattle.std.specs.Prelude.{sum_by}
use Rattle.std.specs.List.{flat_map, AllByRecursion}
use Rattle.std.proofs.lemmas.List.{length-append}
use Rattle.std.proofs.lemmas.List.Sums.{sum_by-cons}
use Rattle.xt_messages.specs.declared.reply.Denial.{Denial}
use Rattle.xt_messages.specs.declared.reply.Reply.{Reply}
use Rattle.xt_messages.specs.declared.meta.MetaRefusal.{MetaRefusal}
use Rattle.xt_messages.specs.declared.meta.RowKind.{RowKind}
use Rattle.xt_messages.specs.declared.meta.MetaAnswer.{MetaAnswer}
use Rattle.xt_messages.specs.declared.registry.RegistryRow.{RegistryRow}
use Rattle.xt_messages.specs.declared.registry.RegistryAnswer.{RegistryAnswer}
use Rattle.xt_messages.specs.declared.reply.Denial.TheVariants as denial
use Rattle.xt_messages.specs.declared.reply.Reply.TheVariants as reply
use Rattle.xt_messages.specs.declared.meta.MetaRefusal.TheVariants as refusal
use Rattle.xt_messages.specs.declared.meta.RowKind.TheVariants as row_kind
use Rattle.xt_messages.specs.declared.meta.MetaAnswer.TheVariants as answer
use Rattle.xt_messages.specs.declared.registry.RegistryAnswer.TheVariants as told
use Rattle.xt_base.specs.FieldLimits.{FitsName}
use Rattle.xt_messages.specs.Limits.{FitsRow, FitsReply, FitsMetaAnswer, FitsRegistryAnswer}
use Rattle.xt_messages.specs.FrameLength.{text_length, reply_length, meta_refusal_length, meta_answer_length, row_length, registry_answer_length}
use Rattle.xt_fields.specs.BasicFields.{byte_bytes, half_bytes, word_bytes, long_bytes, octets_bytes, text_bytes}
use Rattle.xt_wire.specs.IdFields.{node_bytes, mark_bytes}
use Rattle.xt_wire.specs.FileFields.{location_bytes, capability_bytes}
use Rattle.xt_frames.specs.ReplyFields.{denial_bytes, reply_bytes}
use Rattle.xt_frames.specs.MetaAnswers.{refusal_bytes, flag_bytes, names_bytes, row_kind_bytes, meta_answer_bytes}
use Rattle.xt_frames.specs.RegistryAnswers.{row_bytes, rows_bytes, registry_answer_bytes}
use Rattle.xt_fields.proofs.BasicLaws.{half-length, word-length, long-length}
use Rattle.xt_wire.proofs.FieldLengths.{mark_len, octets_len, text_len, summed_len, location_len, capability_len, members_bound}
use Rattle.xt_wire.proofs.FileLaws.{members_few}

pub denial_len : (x : Denial) → length (denial_bytes x) ≡ 1
denial_len denial.Tag = refl
denial_len denial.File = refl
denial_len denial.Expired = refl
denial_len denial.Mode = refl
denial_len denial.List = refl
denial_len denial.Range = refl

pub reply_len : (x : Reply) → length (reply_bytes x) ≡ reply_length x
reply_len (reply.Ok count mark bytes) = omega (arith, length-append (byte_bytes 1) (long_bytes count), long-length count, length-append (byte_bytes 1 ++ long_bytes count) (mark_bytes mark), mark_len mark, length-append (byte_bytes 1 ++ long_bytes count ++ mark_bytes mark) (octets_bytes bytes), octets_len bytes)
reply_len (reply.NoLease end) = omega (arith, length-append (byte_bytes 2) (long_bytes end), long-length end)
reply_len (reply.NoMajority have need) = omega (arith, length-append (byte_bytes 3) (byte_bytes have), length-append (byte_bytes 3 ++ byte_bytes have) (byte_bytes need))
reply_len (reply.Elsewhere node end) = omega (arith, length-append (byte_bytes 4) (node_bytes node), word-length node.0, length-append (byte_bytes 4 ++ node_bytes node) (long_bytes end), long-length end)
reply_len (reply.Denied rule) = omega (arith, length-append (byte_bytes 5) (denial_bytes rule), denial_len rule)
reply_len (reply.OldList version) = omega (arith, length-append (byte_bytes 6) (word_bytes version), word-length version)
reply_len (reply.OldEpoch epoch) = omega (arith, length-append (byte_bytes 7) (long_bytes epoch), long-length epoch)
reply_len (reply.TooFar object) = omega (arith, length-append (byte_bytes 8) (long_bytes object), long-length object)
reply_len reply.ClientsFull = refl

pub refusal_len : (x : MetaRefusal) → length (refusal_bytes x) ≡ meta_refusal_length x
refusal_len refusal.NotFound = refl
refusal_len refusal.Exists = refl
refusal_len refusal.NotDir = refl
refusal_len refusal.IsDir = refl
refusal_len refusal.NotEmpty = refl
refusal_len refusal.IntoSelf = refl
refusal_len refusal.OtherVolume = refl
refusal_len refusal.NameBad = refl
refusal_len (refusal.Forbidden rule) = refl
refusal_len (refusal.TooFew have) = refl
refusal_len (refusal.Denied rule) = omega (arith, denial_len rule)
refusal_len (refusal.Changing version) = omega (arith, length-append (byte_bytes 16) (word_bytes version), word-length version)
refusal_len refusal.NotReplicated = refl
refusal_len (refusal.UnknownOsd node) = omega (arith, length-append (byte_bytes 18) (node_bytes node), word-length node.0)

pub names_len : (x : List (List ℕ)) → length (names_bytes x) ≡ 4 + sum_by text_length x
names_len x = omega (arith, length-append (word_bytes (length x)) (flat_map text_bytes x), word-length (length x), summed_len text_bytes text_length text_len x)

pub row_kind_len : (x : RowKind) → length (row_kind_bytes x) ≡ 1
row_kind_len row_kind.Directory = refl
row_kind_len row_kind.File = refl

pub flag_len : (x : Bool) → length (flag_bytes x) ≡ 1
flag_len false = refl
flag_len true = refl

pub meta_answer_len : (x : MetaAnswer) → FitsMetaAnswer x → length (meta_answer_bytes x) ≡ meta_answer_length x
meta_answer_len answer.Done h = refl
meta_answer_len (answer.Names names) h = omega (arith, length-append (byte_bytes 12) (names_bytes names), names_len names)
meta_answer_len (answer.Row kind owner group mode mark) h = omega (arith, length-append (byte_bytes 13) (row_kind_bytes kind), row_kind_len kind, length-append (byte_bytes 13 ++ row_kind_bytes kind) (word_bytes owner), word-length owner, length-append (byte_bytes 13 ++ row_kind_bytes kind ++ word_bytes owner) (word_bytes group), word-length group, length-append (byte_bytes 13 ++ row_kind_bytes kind ++ word_bytes owner ++ word_bytes group) (half_bytes mode), half-length mode, length-append (byte_bytes 13 ++ row_kind_bytes kind ++ word_bytes owner ++ word_bytes group ++ half_bytes mode) (mark_bytes mark), mark_len mark)
meta_answer_len (answer.Granted capability mark) h = omega (arith, length-append (byte_bytes 14) (capability_bytes capability), capability_len capability h.0, length-append (byte_bytes 14 ++ capability_bytes capability) (mark_bytes mark), mark_len mark)
meta_answer_len (answer.Refused refusal) h = refusal_len refusal
meta_answer_len (answer.Located location changing) h = omega (arith, length-append (byte_bytes 15) (location_bytes location), location_len location, length-append (byte_bytes 15 ++ location_bytes location) (flag_bytes changing), flag_len changing)

pub row_len : (x : RegistryRow) → length (row_bytes x) ≡ row_length x
row_len x = omega (arith, word-length x.node.0, length-append (node_bytes x.node) (byte_bytes x.kind), length-append (node_bytes x.node ++ byte_bytes x.kind) (text_bytes x.address), text_len x.address, length-append (node_bytes x.node ++ byte_bytes x.kind ++ text_bytes x.address) (long_bytes x.version), long-length x.version)

pub rows_len : (x : List RegistryRow) → length (rows_bytes x) ≡ 4 + sum_by row_length x
rows_len x = omega (arith, length-append (word_bytes (length x)) (flat_map row_bytes x), word-length (length x), summed_len row_bytes row_length row_len x)

pub registry_answer_len : (x : RegistryAnswer) → length (registry_answer_bytes x) ≡ registry_answer_length x
registry_answer_len (told.Done version) = omega (arith, length-append (byte_bytes 0) (long_bytes version), long-length version)
registry_answer_len (told.Changed version) = omega (arith, length-append (byte_bytes 1) (long_bytes version), long-length version)
registry_answer_len told.Absent = refl
registry_answer_len (told.Row row) = omega (arith, length-append (byte_bytes 3) (row_bytes row), row_len row)
registry_answer_len (told.Rows rows) = omega (arith, length-append (byte_bytes 4) (rows_bytes rows), rows_len rows)

pub names_bound : (x : List (List ℕ)) → AllByRecursion FitsName x → sum_by text_length x ≤ 257 * length x
names_bound [] h = omega arith
names_bound (a ∷ x) h = omega (arith, sum_by-cons text_length a x, h.0.few, names_bound x h.1)

pub rows_bound : (x : List RegistryRow) → AllByRecursion FitsRow x → sum_by row_length x ≤ 270 * length x
rows_bound [] h = omega arith
rows_bound (a ∷ x) h = omega (arith, sum_by-cons row_length a x, h.0.place.few, rows_bound x h.1)

pub reply_bound : (x : Reply) → FitsReply x → reply_length x ≤ 131101
reply_bound (reply.Ok count mark bytes) h = omega (arith, h.2.few)
reply_bound (reply.NoLease end) h = omega arith
reply_bound (reply.NoMajority have need) h = omega arith
reply_bound (reply.Elsewhere node end) h = omega arith
reply_bound (reply.Denied rule) h = omega arith
reply_bound (reply.OldList version) h = omega arith
reply_bound (reply.OldEpoch epoch) h = omega arith
reply_bound (reply.TooFar object) h = omega arith
reply_bound reply.ClientsFull h = omega arith

pub refusal_bound : (x : MetaRefusal) → meta_refusal_length x ≤ 5
refusal_bound refusal.NotFound = omega arith
refusal_bound refusal.Exists = omega arith
refusal_bound refusal.NotDir = omega arith
refusal_bound refusal.IsDir = omega arith
refusal_bound refusal.NotEmpty = omega arith
refusal_bound refusal.IntoSelf = omega arith
refusal_bound refusal.OtherVolume = omega arith
refusal_bound refusal.NameBad = omega arith
refusal_bound (refusal.Forbidden rule) = omega arith
refusal_bound (refusal.TooFew have) = omega arith
refusal_bound (refusal.Denied rule) = omega arith
refusal_bound (refusal.Changing version) = omega arith
refusal_bound refusal.NotReplicated = omega arith
refusal_bound (refusal.UnknownOsd node) = omega arith

pub meta_answer_bound : (x : MetaAnswer) → FitsMetaAnswer x → meta_answer_length x ≤ 131589
meta_answer_bound answer.Done h = omega arith
meta_answer_bound (answer.Refused refusal) h = omega (arith, refusal_bound refusal)
meta_answer_bound (answer.Names names) h = omega (arith, h.few, names_bound names h.each)
meta_answer_bound (answer.Row kind owner group mode mark) h = omega arith
meta_answer_bound (answer.Granted capability mark) h = omega (arith, members_bound capability h.0)
meta_answer_bound (answer.Located location changing) h = omega (arith, members_few location.members h.nodes.different)

pub registry_answer_bound : (x : RegistryAnswer) → FitsRegistryAnswer x → registry_answer_length x ≤ 69125
registry_answer_bound (told.Done version) h = omega arith
registry_answer_bound (told.Changed version) h = omega arith
registry_answer_bound told.Absent h = omega arith
registry_answer_bound (told.Row row) h = omega (arith, h.place.few)
registry_answer_bound (told.Rows rows) h = omega (arith, h.few, rows_bound rows h.each)
