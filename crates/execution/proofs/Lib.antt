mod Covering
