-- That signatures, maps, faces and verdicts may cross threads. The search finds this of each part by itself, but not of a struct of such parts: so it is
-- put together here by hand, from the parts up. A struct's part has the type of its fields (`the_field`), and a parameter that of
-- its values (`the_row`).
use denote.Param.Send.{IsSend, IsSync, sendable, recorded_send, recorded_sync, struct_send, struct_sync, enum_send, enum_sync, view_send, view_sync}
use denote.RattleType.{RattleType}
use denote.Builtin.{usize}
use denote.Struct.Declared.{shape}
use denote.Enum.Declared as enum
use Rattle.std.proofs.Crossing.{Arc-send, Arc-sync, Box-send, Box-sync, Vec-send, Vec-sync, send, sync, frees}
use Rattle.std.specs.contracts.alloc.Global as heap
use Rattle.std.specs.contracts.impls.GlobalAllocator.TheImpl.{ghosts}
use Rattle.std.specs.contracts.hash.BuildHasherDefault as hashers
use Rattle.std.specs.contracts.hash.FoldHasher as hasher
use Rattle.std.specs.contracts.option.Option as option
use Rattle.std.specs.contracts.sync.Arc as counted
use Rattle.indexmap.proofs.map.IndexMap.TheSendSync as tables
use Rattle.indexmap.proofs.set.IndexSet.TheSendSync as sets
use Rattle.base_types.specs.contracts.name.Name as name
use Rattle.base_types.specs.contracts.path.Path as path
use Rattle.base_types.specs.contracts.qname.QName as constant
use Rattle.base_types.specs.contracts.shared.Arc as arc
use Rattle.base_types.proofs.name.Name.TheSendSync as names
use Rattle.base_types.proofs.path.Path.TheSendSync as paths
use Rattle.base_types.proofs.qname.QName.TheSendSync as constants
use Rattle.base_types.proofs.sequence.Sequence.TheSendSync as sequences
use Rattle.base_types.proofs.shared.Arc.TheSendSync as shared
use Rattle.term_trees.specs.contracts.obj.Obj as object
use Rattle.term_trees.specs.contracts.obj.Spine as spine
use Rattle.term_trees.specs.contracts.fam.Fam as family
use Rattle.term_trees.specs.contracts.kind.Kind as kind
use Rattle.term_trees.specs.contracts.class.Class as class
use Rattle.term_trees.specs.contracts.class.Value as value
use Rattle.term_trees.specs.contracts.flat_decl.FlatDecl as declaration
use Rattle.term_trees.specs.contracts.flat_decl.Image as image
use Rattle.term_trees.proofs.obj.Head.TheSendSync as heads
use Rattle.term_trees.proofs.measure.Measure.TheSendSync as measures
use Rattle.term_trees.proofs.obj.Obj.TheLaws.TheKnot as objects
use Rattle.term_trees.proofs.fam.Fam.TheLaws.TheKnot as families
use Rattle.term_trees.proofs.kind.Kind.TheLaws.TheKnot as kinds
use Rattle.lf_terms.specs.contracts.flat_sig.ByPath as by_path
use Rattle.lf_terms.specs.contracts.flat_sig.FlatSig as signature
use Rattle.lf_terms.specs.contracts.flat_sig.FlatSig.TheInside as signature_inside
use Rattle.lf_terms.specs.contracts.head_map.HeadMap as head_map
use Rattle.lf_terms.specs.contracts.head_map.HeadMap.TheInside as head_map_inside
use Rattle.lf_terms.specs.contracts.map_part.MapPart as map_part
use Rattle.lf_terms.specs.contracts.map_part.MapPart.TheInside as map_part_inside
use Rattle.lf_terms.specs.contracts.named.Named as named
use Rattle.lf_terms.specs.contracts.named.Named.TheInside as named_inside
use Rattle.mmt_interface.specs.contracts.face.StructFace as structure
use Rattle.mmt_interface.specs.contracts.face.TheoryFace as theory
use Rattle.mmt_interface.specs.contracts.face.ViewFace as view_face
use Rattle.mmt_interface.specs.contracts.verdict.Interface as interface
use Rattle.mmt_interface.specs.contracts.verdict.Verdict as verdict
use Rattle.mmt_interface.specs.contracts.refusal.Refusal as refusal
use Rattle.mmt_interface.proofs.refusal.Refusal.TheSendSync as refusals

-- A row that is shared may cross where what is in it may both cross and be seen from several threads.
row_send : (T : RattleType) → IsSend T → IsSync T → IsSend (option.the_row (counted.the_row T heap.the_row ghosts))
row_send T s y = recorded_send (option.the_field (counted.the_row T heap.the_row ghosts)).row _ _ (option.the_type (counted.the_row T heap.the_row ghosts)).to_one (enum_send (enum.shape (option.the_type (counted.the_row T heap.the_row ghosts))) (tt, ((Arc-send T s y, tt), tt)))

row_sync : (T : RattleType) → IsSend T → IsSync T → IsSync (option.the_row (counted.the_row T heap.the_row ghosts))
row_sync T s y = recorded_sync (option.the_field (counted.the_row T heap.the_row ghosts)).row _ _ (option.the_type (counted.the_row T heap.the_row ghosts)).to_one (enum_sync (enum.shape (option.the_type (counted.the_row T heap.the_row ghosts))) (tt, ((Arc-sync T s y, tt), tt)))

spine_send : IsSend (spine.the_field).row
spine_send = objects.both_send-Spine (λ T s y. Box-send T s) (λ T s y. Box-sync T y) heads.the_field_send heads.the_field_sync (λ T s y. Vec-send T s) (λ T s y. Vec-sync T y) measures.the_field_send measures.the_field_sync row_send row_sync (search sendable) (search sendable)

object_send : IsSend (object.the_field).row
object_send = objects.both_send-Obj (λ T s y. Box-send T s) (λ T s y. Box-sync T y) heads.the_field_send heads.the_field_sync (λ T s y. Vec-send T s) (λ T s y. Vec-sync T y) measures.the_field_send measures.the_field_sync row_send row_sync (search sendable) (search sendable)

family_send : IsSend (family.the_field).row
family_send = families.send-Fam Box-send constants.the_field_send spine_send

family_row_send : IsSend family.the_row
family_row_send = recorded_send (family.the_field).row _ _ (family.the_type).to_one family_send

kind_send : IsSend (kind.the_field).row
kind_send = kinds.send-Kind (Box-send family.the_row family_row_send) Box-send

class_send : IsSend (class.the_field).row
class_send = enum_send (enum.shape class.the_type) ((kind_send, tt), ((family_send, tt), tt))

value_send : IsSend (value.the_field).row
value_send = enum_send (enum.shape value.the_type) ((constants.the_field_send, tt), ((object_send, tt), ((search sendable, (family_send, tt)), tt)))

value_row_send : IsSend value.the_row
value_row_send = recorded_send (value.the_field).row _ _ (value.the_type).to_one value_send

option_send : IsSend (option.the_field value.the_row).row
option_send = enum_send (enum.shape (option.the_type value.the_row)) (tt, ((value_row_send, tt), tt))

declaration_send : IsSend (declaration.the_field).row
declaration_send = struct_send (shape declaration.the_type) (constants.the_field_send, (class_send, (option_send, tt)))

declaration_row_send : IsSend declaration.the_row
declaration_row_send = recorded_send (declaration.the_field).row _ _ (declaration.the_type).to_one declaration_send

image_send : IsSend (image.the_field).row
image_send = struct_send (shape image.the_type) (class_send, (value_send, tt))

image_row_send : IsSend image.the_row
image_row_send = recorded_send (image.the_field).row _ _ (image.the_type).to_one image_send

spine_sync : IsSync (spine.the_field).row
spine_sync = objects.both_sync-Spine (λ T s y. Box-send T s) (λ T s y. Box-sync T y) heads.the_field_send heads.the_field_sync (λ T s y. Vec-send T s) (λ T s y. Vec-sync T y) measures.the_field_send measures.the_field_sync row_send row_sync (search sendable) (search sendable)

object_sync : IsSync (object.the_field).row
object_sync = objects.both_sync-Obj (λ T s y. Box-send T s) (λ T s y. Box-sync T y) heads.the_field_send heads.the_field_sync (λ T s y. Vec-send T s) (λ T s y. Vec-sync T y) measures.the_field_send measures.the_field_sync row_send row_sync (search sendable) (search sendable)

family_sync : IsSync (family.the_field).row
family_sync = families.sync-Fam Box-sync constants.the_field_sync spine_sync

family_row_sync : IsSync family.the_row
family_row_sync = recorded_sync (family.the_field).row _ _ (family.the_type).to_one family_sync

kind_sync : IsSync (kind.the_field).row
kind_sync = kinds.sync-Kind (Box-sync family.the_row family_row_sync) Box-sync

class_sync : IsSync (class.the_field).row
class_sync = enum_sync (enum.shape class.the_type) ((kind_sync, tt), ((family_sync, tt), tt))

value_sync : IsSync (value.the_field).row
value_sync = enum_sync (enum.shape value.the_type) ((constants.the_field_sync, tt), ((object_sync, tt), ((search sendable, (family_sync, tt)), tt)))

value_row_sync : IsSync value.the_row
value_row_sync = recorded_sync (value.the_field).row _ _ (value.the_type).to_one value_sync

option_sync : IsSync (option.the_field value.the_row).row
option_sync = enum_sync (enum.shape (option.the_type value.the_row)) (tt, ((value_row_sync, tt), tt))

declaration_sync : IsSync (declaration.the_field).row
declaration_sync = struct_sync (shape declaration.the_type) (constants.the_field_sync, (class_sync, (option_sync, tt)))

declaration_row_sync : IsSync declaration.the_row
declaration_row_sync = recorded_sync (declaration.the_field).row _ _ (declaration.the_type).to_one declaration_sync

image_sync : IsSync (image.the_field).row
image_sync = struct_sync (shape image.the_type) (class_sync, (value_sync, tt))

image_row_sync : IsSync image.the_row
image_row_sync = recorded_sync (image.the_field).row _ _ (image.the_type).to_one image_sync

map_part_inside_send : IsSend map_part_inside.the_row
map_part_inside_send = recorded_send (map_part_inside.the_field).row _ _ (map_part_inside.the_type).to_one (struct_send (shape map_part_inside.the_type) (
  names.the_send,
  (tables.the_send constant.the_row image.the_row (hashers.the_row hasher.the_row) heap.the_row hasher.the_row _ _ _ _ ghosts constants.the_send image_row_send (search sendable depth 20) send frees, tt),
))

map_part_send : IsSend map_part.the_row
map_part_send = view_send map_part_inside.the_row _ _ _ _ map_part_inside_send

map_part_inside_sync : IsSync map_part_inside.the_row
map_part_inside_sync = recorded_sync (map_part_inside.the_field).row _ _ (map_part_inside.the_type).to_one (struct_sync (shape map_part_inside.the_type) (
  names.the_sync,
  (tables.the_sync constant.the_row image.the_row (hashers.the_row hasher.the_row) heap.the_row hasher.the_row _ _ _ _ ghosts constants.the_sync image_row_sync (search sendable depth 20) sync, tt),
))

map_part_sync : IsSync map_part.the_row
map_part_sync = view_sync map_part_inside.the_row _ _ _ _ map_part_inside_sync

shared_part_send : IsSend (arc.the_row map_part.the_row)
shared_part_send = shared.the_send map_part.the_row map_part_send map_part_sync

shared_part_sync : IsSync (arc.the_row map_part.the_row)
shared_part_sync = shared.the_sync map_part.the_row map_part_send map_part_sync

option_part_send : IsSend (option.the_field (arc.the_row map_part.the_row)).row
option_part_send = enum_send (enum.shape (option.the_type (arc.the_row map_part.the_row))) (tt, ((shared_part_send, tt), tt))

option_part_sync : IsSync (option.the_field (arc.the_row map_part.the_row)).row
option_part_sync = enum_sync (enum.shape (option.the_type (arc.the_row map_part.the_row))) (tt, ((shared_part_sync, tt), tt))

by_path_send : IsSend (by_path.the_field).row
by_path_send = enum_send (enum.shape by_path.the_type) (
  tt,
  (
    (
      tables.the_send path.the_row usize (hashers.the_row hasher.the_row) heap.the_row hasher.the_row _ _ _ _ ghosts paths.the_send (search sendable) (search sendable depth 20) send frees,
      tt,
    ),
    tt,
  ),
)

named_inside_send : IsSend named_inside.the_row
named_inside_send = recorded_send (named_inside.the_field).row _ _ (named_inside.the_type).to_one (struct_send (shape named_inside.the_type) (declaration_send, tt))

named_send : IsSend named.the_row
named_send = view_send named_inside.the_row _ _ _ _ named_inside_send

signature_inside_send : IsSend signature_inside.the_row
signature_inside_send = recorded_send (signature_inside.the_field).row _ _ (signature_inside.the_type).to_one (struct_send (shape signature_inside.the_type) (
  sets.the_send named.the_row (hashers.the_row hasher.the_row) heap.the_row hasher.the_row _ _ _ _ ghosts named_send (search sendable depth 20) send frees,
  (by_path_send, (option_part_send, tt)),
))

pub signature_send : IsSend signature.the_row
signature_send = view_send signature_inside.the_row _ _ _ _ signature_inside_send

head_map_inside_send : IsSend head_map_inside.the_row
head_map_inside_send = recorded_send (head_map_inside.the_field).row _ _ (head_map_inside.the_type).to_one (struct_send (shape head_map_inside.the_type) (
  tables.the_send name.the_row (arc.the_row map_part.the_row) (hashers.the_row hasher.the_row) heap.the_row hasher.the_row _ _ _ _ ghosts names.the_send shared_part_send (search sendable depth 20) send frees,
  (tables.the_send constant.the_row image.the_row (hashers.the_row hasher.the_row) heap.the_row hasher.the_row _ _ _ _ ghosts constants.the_send image_row_send (search sendable depth 20) send frees, (search sendable, tt)),
))

pub head_map_send : IsSend head_map.the_row
head_map_send = view_send head_map_inside.the_row _ _ _ _ head_map_inside_send

structure_send : IsSend (structure.the_field).row
structure_send = struct_send (shape structure.the_type) (names.the_send, (names.the_send, (head_map_send, tt)))

pub structure_row_send : IsSend structure.the_row
structure_row_send = recorded_send (structure.the_field).row _ _ (structure.the_type).to_one structure_send

theory_send : IsSend (theory.the_field).row
theory_send = struct_send (shape theory.the_type) (names.the_send, (signature_send, (sequences.the_send _ names.the_send, (sequences.the_send structure.the_row structure_row_send, tt))))

theory_row_send : IsSend theory.the_row
theory_row_send = recorded_send (theory.the_field).row _ _ (theory.the_type).to_one theory_send

view_face_send : IsSend (view_face.the_field).row
view_face_send = struct_send (shape view_face.the_type) (names.the_send, (names.the_send, (names.the_send, (head_map_send, tt))))

pub view_face_row_send : IsSend view_face.the_row
view_face_row_send = recorded_send (view_face.the_field).row _ _ (view_face.the_type).to_one view_face_send

interface_send : IsSend (interface.the_field).row
interface_send = enum_send (enum.shape interface.the_type) ((theory_send, (search sendable, tt)), ((view_face_send, tt), tt))

interface_row_send : IsSend interface.the_row
interface_row_send = recorded_send (interface.the_field).row _ _ (interface.the_type).to_one interface_send

by_path_sync : IsSync (by_path.the_field).row
by_path_sync = enum_sync (enum.shape by_path.the_type) (
  tt,
  (
    (
      tables.the_sync path.the_row usize (hashers.the_row hasher.the_row) heap.the_row hasher.the_row _ _ _ _ ghosts paths.the_sync (search sendable) (search sendable depth 20) sync,
      tt,
    ),
    tt,
  ),
)

named_inside_sync : IsSync named_inside.the_row
named_inside_sync = recorded_sync (named_inside.the_field).row _ _ (named_inside.the_type).to_one (struct_sync (shape named_inside.the_type) (declaration_sync, tt))

named_sync : IsSync named.the_row
named_sync = view_sync named_inside.the_row _ _ _ _ named_inside_sync

signature_inside_sync : IsSync signature_inside.the_row
signature_inside_sync = recorded_sync (signature_inside.the_field).row _ _ (signature_inside.the_type).to_one (struct_sync (shape signature_inside.the_type) (
  sets.the_sync named.the_row (hashers.the_row hasher.the_row) heap.the_row hasher.the_row _ _ _ _ ghosts named_sync (search sendable depth 20) sync,
  (by_path_sync, (option_part_sync, tt)),
))

pub signature_sync : IsSync signature.the_row
signature_sync = view_sync signature_inside.the_row _ _ _ _ signature_inside_sync

head_map_inside_sync : IsSync head_map_inside.the_row
head_map_inside_sync = recorded_sync (head_map_inside.the_field).row _ _ (head_map_inside.the_type).to_one (struct_sync (shape head_map_inside.the_type) (
  tables.the_sync name.the_row (arc.the_row map_part.the_row) (hashers.the_row hasher.the_row) heap.the_row hasher.the_row _ _ _ _ ghosts names.the_sync shared_part_sync (search sendable depth 20) sync,
  (tables.the_sync constant.the_row image.the_row (hashers.the_row hasher.the_row) heap.the_row hasher.the_row _ _ _ _ ghosts constants.the_sync image_row_sync (search sendable depth 20) sync, (search sendable, tt)),
))

pub head_map_sync : IsSync head_map.the_row
head_map_sync = view_sync head_map_inside.the_row _ _ _ _ head_map_inside_sync

structure_sync : IsSync (structure.the_field).row
structure_sync = struct_sync (shape structure.the_type) (names.the_sync, (names.the_sync, (head_map_sync, tt)))

pub structure_row_sync : IsSync structure.the_row
structure_row_sync = recorded_sync (structure.the_field).row _ _ (structure.the_type).to_one structure_sync

theory_sync : IsSync (theory.the_field).row
theory_sync = struct_sync (shape theory.the_type) (names.the_sync, (signature_sync, (sequences.the_sync _ names.the_sync, (sequences.the_sync structure.the_row structure_row_sync, tt))))

theory_row_sync : IsSync theory.the_row
theory_row_sync = recorded_sync (theory.the_field).row _ _ (theory.the_type).to_one theory_sync

view_face_sync : IsSync (view_face.the_field).row
view_face_sync = struct_sync (shape view_face.the_type) (names.the_sync, (names.the_sync, (names.the_sync, (head_map_sync, tt))))

pub view_face_row_sync : IsSync view_face.the_row
view_face_row_sync = recorded_sync (view_face.the_field).row _ _ (view_face.the_type).to_one view_face_sync

interface_sync : IsSync (interface.the_field).row
interface_sync = enum_sync (enum.shape interface.the_type) ((theory_sync, (search sendable, tt)), ((view_face_sync, tt), tt))

interface_row_sync : IsSync interface.the_row
interface_row_sync = recorded_sync (interface.the_field).row _ _ (interface.the_type).to_one interface_sync

verdict_send : IsSend (verdict.the_field).row
verdict_send = enum_send (enum.shape verdict.the_type) ((shared.the_send interface.the_row interface_row_send interface_row_sync, tt), ((shared.the_send refusal.the_row refusals.the_send refusals.the_sync, tt), tt))

pub verdict_row_send : IsSend verdict.the_row
verdict_row_send = recorded_send (verdict.the_field).row _ _ (verdict.the_type).to_one verdict_send

verdict_sync : IsSync (verdict.the_field).row
verdict_sync = enum_sync (enum.shape verdict.the_type) ((shared.the_sync interface.the_row interface_row_send interface_row_sync, tt), ((shared.the_sync refusal.the_row refusals.the_send refusals.the_sync, tt), tt))

pub verdict_row_sync : IsSync verdict.the_row
verdict_row_sync = recorded_sync (verdict.the_field).row _ _ (verdict.the_type).to_one verdict_sync
