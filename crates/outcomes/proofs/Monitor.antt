-- The public functions of crates/monitor.
use mathlib.Core.Path.{refl}
use Rattle.monitor.proofs as code
use Rattle.outcomes.proofs.Exact.{Exact, one, both}
use Rattle.outcomes.proofs.Image.{image-length, image, reload}
use Rattle.outcomes.proofs.Work.{work-length, fill}
use Rattle.outcomes.proofs.Calls.{call, view-part}

pub monitor-setup : Exact code.monitor_setup.Kinds.ps code.monitor_setup.Kinds.r code.monitor_setup.Reads.Asked code.monitor_setup.Reads.Learnt
monitor-setup = (λ κs a. tt, λ κs a z z' w w' p q. (one p.0 q.0, both (one p.1 q.1) refl))

pub monitor-check : Exact code.monitor_check.Kinds.ps code.monitor_check.Kinds.r code.monitor_check.Reads.Asked code.monitor_check.Reads.Learnt
monitor-check = (λ κs a. tt, λ κs a z z' w w' p q. (one p q, refl))

pub monitor-call : Exact code.monitor_call.Kinds.ps code.monitor_call.Kinds.r code.monitor_call.Reads.Asked code.monitor_call.Reads.Learnt
monitor-call = call

pub monitor-image-length : Exact code.monitor_image_length.Kinds.ps code.monitor_image_length.Kinds.r code.monitor_image_length.Reads.Asked code.monitor_image_length.Reads.Learnt
monitor-image-length = image-length

pub monitor-image : Exact code.monitor_image.Kinds.ps code.monitor_image.Kinds.r code.monitor_image.Reads.Asked code.monitor_image.Reads.Learnt
monitor-image = image

pub monitor-reload : Exact code.monitor_reload.Kinds.ps code.monitor_reload.Kinds.r code.monitor_reload.Reads.Asked code.monitor_reload.Reads.Learnt
monitor-reload = reload

pub monitor-view : Exact code.monitor_view.Kinds.ps code.monitor_view.Kinds.r code.monitor_view.Reads.Asked code.monitor_view.Reads.Learnt
monitor-view = view-part

pub monitor-work-length : Exact code.monitor_work_length.Kinds.ps code.monitor_work_length.Kinds.r code.monitor_work_length.Reads.Asked code.monitor_work_length.Reads.Learnt
monitor-work-length = work-length

pub monitor-work : Exact code.monitor_work.Kinds.ps code.monitor_work.Kinds.r code.monitor_work.Reads.Asked code.monitor_work.Reads.Learnt
monitor-work = fill
