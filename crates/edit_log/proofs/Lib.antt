mod Tables
mod Answering
mod Texts
mod Keeping
mod Items
